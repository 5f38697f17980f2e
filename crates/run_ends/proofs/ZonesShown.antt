-- Of a zone file no more is read than one byte past the limit, which judges it as the whole file
-- would be judged.
use Rattle.std.proofs.Common.{◌≡◌, ℕ, ◌<◌, ◌≤◌, List, length, take, Option, None, Some, IfSome}
use Rattle.std.proofs.Common.{⊎_elim, ap, sym, ◌∙◌, refl, arith}
use Rattle.std.specs.Option.{option_map, option_or}
use Rattle.std.proofs.lemmas.List.{take_all, length-take-le}
use Rattle.td_base.specs.Views.{File, file_at}
use Rattle.td_base.specs.Outside.{FileTells}
use Rattle.td_base.specs.declared.outside.FileRead.TheVariants as looked
use Rattle.release_check.proofs.lemmas.Prefixes.{fits_or_longer, too_large}
use Rattle.tzif_reader.specs.Cut.{lists_of}
use Rattle.tzif_reader.specs.declared.tzif_fault.TzifFault.TheVariants as tzif
use Rattle.zone_meaning.specs.Faults.{zone_fault, footer_text_fault}
use Rattle.zone_meaning.specs.declared.zone_fault.ZoneFault.{ZoneFault}
use Rattle.zone_meaning.specs.declared.zone_fault.ZoneFault.TheVariants as zone

-- a file past its limit
large_zone : (bytes : List ℕ) → 65536 < length bytes → zone_fault bytes ≡ Some (zone.Tzif tzif.TooLarge)
unfolding zone_fault
large_zone bytes long =
    ap (λ o. option_or (option_map zone.Tzif o) (option_map zone.Footer (footer_text_fault (lists_of bytes).footer))) (too_large bytes long)

-- the first bytes of a file have its fault, and are the file where there is none
zone_fault-prefix : (whole : List ℕ) → zone_fault (take 65537 whole) ≡ zone_fault whole
zone_fault-prefix whole = ⊎_elim
    (λ (long : 65536 < length whole).
    let size : length (take 65537 whole) ≡ 65537 = length-take-le 65537 whole (omega arith) in
    large_zone (take 65537 whole) (omega arith) ∙ sym (large_zone whole long))
    (λ (fits : length whole ≤ 65536). ap zone_fault (take_all 65537 whole (omega arith)))
    (fits_or_longer 65536 whole)

prefix-whole : (whole : List ℕ) → zone_fault (take 65537 whole) ≡ None → take 65537 whole ≡ whole
prefix-whole whole none = ⊎_elim
    (λ (long : 65536 < length whole).
    let size : length (take 65537 whole) ≡ 65537 = length-take-le 65537 whole (omega arith) in
    let some : zone_fault (take 65537 whole) ≡ Some (zone.Tzif tzif.TooLarge) = large_zone (take 65537 whole) (omega arith) in
    cc)
    (λ (fits : length whole ≤ 65536). take_all 65537 whole (omega arith))
    (fits_or_longer 65536 whole)

-- what the first bytes of a file tell of the file
pub record IsOfPrefix (path bytes : List ℕ) (files : Option (List File)) : Type 0 where
  pub clear : zone_fault bytes ≡ None → IfSome files (λ fs. file_at fs path ≡ Some bytes)
  pub refused : (f : ZoneFault) → zone_fault bytes ≡ Some f
      → (whole : List ℕ) × IfSome files (λ fs. file_at fs path ≡ Some whole) × (zone_fault whole ≡ Some f)

clear_whole : (found : Option (List ℕ)) (bytes : List ℕ) → option_map (take 65537) found ≡ Some bytes → zone_fault bytes ≡ None → found ≡ Some bytes
clear_whole None bytes e none = cc
clear_whole (Some whole) bytes e none =
    let same : take 65537 whole ≡ bytes = cc in
    ap Some (sym (prefix-whole whole (ap zone_fault same ∙ none)) ∙ same)

refused_whole : (found : Option (List ℕ)) (bytes : List ℕ) (f : ZoneFault) → option_map (take 65537) found ≡ Some bytes → zone_fault bytes ≡ Some f
    → (whole : List ℕ) × (found ≡ Some whole) × (zone_fault whole ≡ Some f)
refused_whole None bytes f e is = cc
refused_whole (Some whole) bytes f e is =
    let same : take 65537 whole ≡ bytes = cc in
    (whole, refl, sym (zone_fault-prefix whole) ∙ (ap zone_fault same ∙ is))

pub of_prefix : (path bytes : List ℕ) (files : Option (List File)) → FileTells files path 65537 (looked.Found bytes) → IsOfPrefix path bytes files
of_prefix path bytes None told = record { clear = λ none. tt; refused = λ f is. (bytes, tt, is) }
of_prefix path bytes (Some fs) told = record {
  clear = λ none. clear_whole (file_at fs path) bytes told none;
  refused = λ f is. refused_whole (file_at fs path) bytes f told is;
}
