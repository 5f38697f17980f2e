-- The first fault of a zone's file, as the parts of its reading find it.
use Rattle.std.proofs.Common.{◌≡◌, ◌≢◌, ℕ, ◌<◌, Bool, true, false, not, List, [], ◌∷◌, length}
use Rattle.std.proofs.Common.{Option, None, Some, ap, sym, ◌∙◌, refl, arith}
use Rattle.std.specs.List.{list_any}
use Rattle.std.specs.Option.{option_map, option_map_or, option_or}
use Rattle.tzif_reader.specs.Cut.{lists_of}
use Rattle.tzif_reader.specs.Faults.{first_fault}
use Rattle.tzif_reader.specs.declared.tzif_fault.TzifFault.{TzifFault}
use Rattle.tzif_reader.specs.declared.tzif_fault.TzifFault.TheVariants as tzif
use Rattle.tzif_reader.specs.declared.zone_file.LeapLine.{LeapLine}
use Rattle.tzif_reader.specs.declared.zone_file.ZoneFile.{ZoneFile}
use Rattle.posix_footer.specs.declared.footer_fault.FooterFault.{FooterFault}
use Rattle.zone_meaning.specs.declared.zone_fault.ZoneFault.TheVariants as zone
use Rattle.zone_meaning.specs.Faults.{zone_fault, footer_text_fault}
use Rattle.zone_meaning.specs.Names.{has_printable_names}
use Rattle.posix_footer.specs.Carried.{beyond, IsCarriedIfAny}
use Rattle.posix_footer.specs.declared.rule_types.Footer.{Footer}
use Rattle.zone_meaning.specs.Agreement.{footer_agrees}
use Rattle.zone_meaning.specs.State.{footer_meant}
use Rattle.zone_meaning.specs.Sound.{IsSoundFile}
use Rattle.td_base.specs.FirstFault.{◌or_else◌, when}
use Rattle.zone_meaning.specs.declared.zone_fault.ZoneFault.{ZoneFault}
use Rattle.release_check.specs.Judged.{of_reader, of_zone}
use Rattle.release_check.specs.Faults.{file_fault, meaning_fault}
use Rattle.release_check.specs.declared.check_fault.CheckFault.{CheckFault}
use Rattle.release_check.specs.declared.check_fault.CheckFault.TheVariants as fault

-- the faults in their order
abbrev in_order : ℕ → Option TzifFault → List LeapLine → Option FooterFault → Option CheckFault → Option CheckFault
in_order n read lines footer meant =
    option_map (fault.Tzif n) read or_else when (list_any (λ line. true) lines) (fault.LeapsInZone n)
    or_else option_map (fault.FooterText n) footer or_else meant

file_fault-is : (n : ℕ) (bytes : List ℕ) (read : Option TzifFault) (lines : List LeapLine) (footer : Option FooterFault) (meant : Option CheckFault)
    → first_fault bytes ≡ read → (lists_of bytes).leaps ≡ lines → footer_text_fault (lists_of bytes).footer ≡ footer → meaning_fault n bytes ≡ meant
    → file_fault n bytes ≡ in_order n read lines footer meant
unfolding file_fault
file_fault-is n bytes read lines footer meant r l f b = rw (← r, ← l, ← f, ← b) refl

-- the reader's fault
pub file_fault-tzif : (n : ℕ) (bytes : List ℕ) (f : TzifFault) → first_fault bytes ≡ Some f → file_fault n bytes ≡ Some (fault.Tzif n f)
file_fault-tzif n bytes f is = file_fault-is n bytes (Some f) _ _ _ is refl refl refl

-- leap lines
some_lines : (n : ℕ) (lines : List LeapLine) (footer : Option FooterFault) (meant : Option CheckFault) → 0 < length lines
    → in_order n None lines footer meant ≡ Some (fault.LeapsInZone n)
some_lines n [] footer meant some = absurd (omega arith)
some_lines n (l ∷ ls) footer meant some = refl

pub file_fault-leaps : (n : ℕ) (bytes : List ℕ) (lists : ZoneFile) → first_fault bytes ≡ None → lists ≡ lists_of bytes → 0 < length lists.leaps
    → file_fault n bytes ≡ Some (fault.LeapsInZone n)
file_fault-leaps n bytes lists none is some =
    file_fault-is n bytes None lists.leaps _ _ none (ap (λ z. z.leaps) (sym is)) refl refl
    ∙ some_lines n lists.leaps (footer_text_fault (lists_of bytes).footer) (meaning_fault n bytes) some

-- no leap lines
no_lines : (lines : List LeapLine) → length lines ≡ 0 → lines ≡ []
no_lines [] none = refl
no_lines (l ∷ ls) none = absurd (omega arith)

pub no_leaps : (bytes : List ℕ) (lists : ZoneFile) → lists ≡ lists_of bytes → length lists.leaps ≡ 0 → (lists_of bytes).leaps ≡ []
no_leaps bytes lists is none = ap (λ z. z.leaps) (sym is) ∙ no_lines lists.leaps none

-- the TZ string's fault is what is left of a zone's
footer_of_zone : (o : Option FooterFault) (f : FooterFault) → option_map zone.Footer o ≡ Some (zone.Footer f) → o ≡ Some f
footer_of_zone None f e = cc
footer_of_zone (Some g) f e = cc

no_footer_of_zone : (o : Option FooterFault) → option_map zone.Footer o ≡ None → o ≡ None
no_footer_of_zone None e = refl
no_footer_of_zone (Some g) e = cc

zone_fault-read : (bytes : List ℕ) → first_fault bytes ≡ None → zone_fault bytes ≡ option_map zone.Footer (footer_text_fault (lists_of bytes).footer)
unfolding zone_fault
zone_fault-read bytes none = ap (λ o. option_or (option_map zone.Tzif o) (option_map zone.Footer (footer_text_fault (lists_of bytes).footer))) none

pub file_fault-footer : (n : ℕ) (bytes : List ℕ) (f : FooterFault) → first_fault bytes ≡ None → (lists_of bytes).leaps ≡ []
    → zone_fault bytes ≡ Some (zone.Footer f) → file_fault n bytes ≡ Some (fault.FooterText n f)
file_fault-footer n bytes f none leaps is =
    file_fault-is n bytes None [] (Some f) _ none leaps (footer_of_zone _ f (sym (zone_fault-read bytes none) ∙ is)) refl

-- what a zone means, or no fault at all
pub file_fault-meant : (n : ℕ) (bytes : List ℕ) → first_fault bytes ≡ None → (lists_of bytes).leaps ≡ [] → zone_fault bytes ≡ None
    → file_fault n bytes ≡ meaning_fault n bytes
file_fault-meant n bytes none leaps is =
    file_fault-is n bytes None [] None (meaning_fault n bytes) none leaps (no_footer_of_zone _ (sym (zone_fault-read bytes none) ∙ is)) refl

-- what the reader refuses
pub judged_by_reader : (n : ℕ) (bytes : List ℕ) (f : TzifFault) → (f ≢ tzif.NoMemory → first_fault bytes ≡ Some f)
    → (of_reader n f ≢ fault.ReadFault) × (of_reader n f ≢ fault.NoMemory → file_fault n bytes ≡ Some (of_reader n f))
judged_by_reader n bytes tzif.NoMemory h = (λ e. cc, λ ne. absurd (ne refl))
judged_by_reader n bytes f h = (λ e. cc, λ _. file_fault-tzif n bytes _ (h (λ e. cc)))

-- what the zone is refused for, where its lists were read
no_tzif_of_zone : (o : Option FooterFault) (f : TzifFault) → option_map zone.Footer o ≡ Some (zone.Tzif f) → ⊥
no_tzif_of_zone None f e = cc
no_tzif_of_zone (Some g) f e = cc

pub judged_by_zone : (n : ℕ) (bytes : List ℕ) (f : ZoneFault) → first_fault bytes ≡ None → (lists_of bytes).leaps ≡ []
    → (f ≢ zone.NoMemory → zone_fault bytes ≡ Some f)
    → (of_zone n f ≢ fault.ReadFault) × (of_zone n f ≢ fault.NoMemory → file_fault n bytes ≡ Some (of_zone n f))
judged_by_zone n bytes zone.NoMemory none leaps h = (λ e. cc, λ ne. absurd (ne refl))
judged_by_zone n bytes (zone.Tzif f) none leaps h =
    absurd (no_tzif_of_zone _ f (sym (zone_fault-read bytes none) ∙ h (λ e. cc)))
judged_by_zone n bytes (zone.Footer f) none leaps h = (λ e. cc, λ _. file_fault-footer n bytes f none leaps (h (λ e. cc)))

-- a file whose meaning has no fault
abbrev in_meaning : ℕ → Bool → Bool → Bool → Option CheckFault
in_meaning n agrees named beyond_rules =
    when (not agrees) (fault.FooterDisagrees n) or_else when (not named) (fault.NameBeyond n) or_else when beyond_rules (fault.RuleBeyond n)

all_pass : (n : ℕ) (agrees named beyond_rules : Bool) → in_meaning n agrees named beyond_rules ≡ None
    → (agrees ≡ true) × (named ≡ true) × (beyond_rules ≡ false)
all_pass n false named beyond_rules h = absurd cc
all_pass n true false beyond_rules h = absurd cc
all_pass n true true true h = absurd cc
all_pass n true true false h = (refl, refl, refl)

meant : (n : ℕ) (bytes : List ℕ) → meaning_fault n bytes ≡ None
    → (footer_agrees (lists_of bytes) ≡ true) × (has_printable_names bytes ≡ true) × (option_map_or beyond (footer_meant (lists_of bytes).footer) false ≡ false)
unfolding meaning_fault
meant n bytes h =
    all_pass n (footer_agrees (lists_of bytes)) (has_printable_names bytes) (option_map_or beyond (footer_meant (lists_of bytes).footer) false) h

carried : (footer : Option Footer) → option_map_or beyond footer false ≡ false → IsCarriedIfAny footer
carried None h = tt
carried (Some footer) h = h

-- a file without a fault is sound
record Clear (n : ℕ) (bytes : List ℕ) : Type 0 where
  read : first_fault bytes ≡ None
  lines : (lists_of bytes).leaps ≡ []
  footer : footer_text_fault (lists_of bytes).footer ≡ None
  means : meaning_fault n bytes ≡ None

clear : (n : ℕ) (bytes : List ℕ) (read : Option TzifFault) (lines : List LeapLine) (footer : Option FooterFault) (means : Option CheckFault)
    → first_fault bytes ≡ read → (lists_of bytes).leaps ≡ lines → footer_text_fault (lists_of bytes).footer ≡ footer → meaning_fault n bytes ≡ means
    → in_order n read lines footer means ≡ None → Clear n bytes
clear n bytes (Some f) lines footer means r l f' b h = absurd (cc)
clear n bytes None (x ∷ xs) footer means r l f b h = absurd (cc)
clear n bytes None [] (Some g) means r l f b h = absurd (cc)
clear n bytes None [] None (Some g) r l f b h = absurd (cc)
clear n bytes None [] None None r l f b h = record { read = r; lines = l; footer = f; means = b }

-- a file whose lists, TZ string and meaning have no fault
pub sound_zone : (n : ℕ) (bytes : List ℕ) → zone_fault bytes ≡ None → (lists_of bytes).leaps ≡ [] → meaning_fault n bytes ≡ None → IsSoundFile bytes
sound_zone n bytes none lines means =
    let is = meant n bytes means in
    record { no_fault = none; no_leaps = lines; agrees = is.0; names = is.1; carried = carried (footer_meant (lists_of bytes).footer) is.2 }

pub sound_file : (n : ℕ) (bytes : List ℕ) → file_fault n bytes ≡ None → IsSoundFile bytes
sound_file n bytes h =
    let is = clear n bytes (first_fault bytes) (lists_of bytes).leaps (footer_text_fault (lists_of bytes).footer) (meaning_fault n bytes) refl refl refl refl
    (sym (file_fault-is n bytes _ _ _ _ refl refl refl refl) ∙ h) in
    sound_zone n bytes (zone_fault-read bytes is.read ∙ ap (option_map zone.Footer) is.footer) is.lines is.means
