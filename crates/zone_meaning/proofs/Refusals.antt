-- How a zone is refused.
use Rattle.std.proofs.Common.{◌≡◌, ◌≢◌, ℕ, List, Some, None, refl, ap, ◌∙◌, sym}
use Rattle.tzif_reader.specs.declared.zone_file.ZoneFile.{ZoneFile}
use Rattle.tzif_reader.specs.declared.tzif_fault.TzifFault.{TzifFault}
use Rattle.tzif_reader.specs.declared.tzif_fault.TzifFault.TheVariants as file
use Rattle.posix_footer.specs.declared.footer_fault.FooterFault.{FooterFault}
use Rattle.zone_meaning.specs.declared.zone_fault.ZoneFault.TheVariants.{NoMemory, Tzif, Footer}
use Rattle.tzif_reader.specs.Cut.{lists_of}
use Rattle.tzif_reader.specs.Faults.{first_fault}
use Rattle.zone_meaning.specs.Faults.{in_file, footer_text_fault, zone_fault}

pub zone_clear : (bytes : List ℕ) (lists : ZoneFile) → first_fault bytes ≡ None → lists ≡ lists_of bytes → footer_text_fault lists.footer ≡ None
    → zone_fault bytes ≡ None
unfolding zone_fault
zone_clear bytes lists h e k = let f : footer_text_fault (lists_of bytes).footer ≡ None = ap (λ (z : ZoneFile). footer_text_fault z.footer) (sym e) ∙ k in
    rw (h, f) refl

pub footer_refused : (bytes : List ℕ) (lists : ZoneFile) (e : FooterFault) → first_fault bytes ≡ None → lists ≡ lists_of bytes
    → footer_text_fault lists.footer ≡ Some e → zone_fault bytes ≡ Some (Footer e)
unfolding zone_fault
footer_refused bytes lists e h same k = let f : footer_text_fault (lists_of bytes).footer ≡ Some e =
    ap (λ (z : ZoneFile). footer_text_fault z.footer) (sym same) ∙ k in rw (h, f) refl

file_refused : (bytes : List ℕ) (e : TzifFault) → first_fault bytes ≡ Some e → zone_fault bytes ≡ Some (Tzif e)
unfolding zone_fault
file_refused bytes e h = rw h refl

-- a fault of the file that is not want of memory is that of the zone
pub file_refused_as : (bytes : List ℕ) (e : TzifFault) → (e ≢ file.NoMemory → first_fault bytes ≡ Some e) → in_file e ≢ NoMemory
    → zone_fault bytes ≡ Some (in_file e)
file_refused_as bytes file.NoMemory h k = absurd (k refl)
file_refused_as bytes file.Magic h k = file_refused bytes file.Magic (h (λ e. cc))
file_refused_as bytes file.Version h k = file_refused bytes file.Version (h (λ e. cc))
file_refused_as bytes (file.Short i) h k = file_refused bytes (file.Short i) (h (λ e. cc))
file_refused_as bytes file.Counts h k = file_refused bytes file.Counts (h (λ e. cc))
file_refused_as bytes (file.Order i) h k = file_refused bytes (file.Order i) (h (λ e. cc))
file_refused_as bytes (file.TypeNumber i) h k = file_refused bytes (file.TypeNumber i) (h (λ e. cc))
file_refused_as bytes (file.Designation i) h k = file_refused bytes (file.Designation i) (h (λ e. cc))
file_refused_as bytes (file.Indicator i) h k = file_refused bytes (file.Indicator i) (h (λ e. cc))
file_refused_as bytes (file.OffsetBeyond i) h k = file_refused bytes (file.OffsetBeyond i) (h (λ e. cc))
file_refused_as bytes file.TooLarge h k = file_refused bytes file.TooLarge (h (λ e. cc))
file_refused_as bytes file.TooLate h k = file_refused bytes file.TooLate (h (λ e. cc))
file_refused_as bytes file.FooterFrame h k = file_refused bytes file.FooterFrame (h (λ e. cc))
file_refused_as bytes (file.Trailing i) h k = file_refused bytes (file.Trailing i) (h (λ e. cc))
