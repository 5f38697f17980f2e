-- The fault of a zone against those of its file and of its footer.
use Rattle.std.proofs.Common.{◌≡◌, ℕ, List, Option, Some, None, refl}
use Rattle.std.specs.Option.{option_map, option_or}
use Rattle.tzif_reader.specs.declared.tzif_fault.TzifFault.{TzifFault}
use Rattle.posix_footer.specs.declared.footer_fault.FooterFault.{FooterFault}
use Rattle.zone_meaning.specs.declared.zone_fault.ZoneFault.TheVariants.{Tzif, Footer}
use Rattle.tzif_reader.specs.Cut.{lists_of}
use Rattle.tzif_reader.specs.Faults.{first_fault}
use Rattle.zone_meaning.specs.Faults.{footer_text_fault, zone_fault}

joined_none : (a : Option TzifFault) (b : Option FooterFault)
    → option_or (option_map Tzif a) (option_map Footer b) ≡ None → (a ≡ None) × (b ≡ None)
joined_none None None h = (refl, refl)
joined_none None (Some e) h = absurd cc
joined_none (Some e) b h = absurd cc

pub file_clear : (bytes : List ℕ) → zone_fault bytes ≡ None → first_fault bytes ≡ None
unfolding zone_fault
file_clear bytes h =
    (joined_none (first_fault bytes) (footer_text_fault (lists_of bytes).footer) h).0
