-- The lengths in a sound release fit in four bytes, and its labels are plain.
use Rattle.std.specs.Prelude.{◌≡◌, ℕ, ◌<◌, ◌≤◌, ◌^◌, List, [], ◌∷◌, length, nat_le, ◌&&◌, Option}
use Rattle.std.specs.Prelude.{None, Some, IfSome}
use Rattle.std.specs.Bool.{IsTrue}
use Rattle.std.specs.List.{AllByRecursion, list_all}
use Rattle.std.proofs.Common.{arith, ap}
use Rattle.std.proofs.lemmas.Bool.{leb-true, and_parts}
use Rattle.td_base.specs.Names.{is_label, is_printable}
use Rattle.td_base.proofs.lemmas.PlainLemmas.{label_is_plain}
use Rattle.td_civil.proofs.lemmas.DateText.{judged_date}
use Rattle.tzif_reader.proofs.lemmas.Whole.{zone_file_of}
use Rattle.catalogue.specs.Plain.{HasPlainLabels}
use Rattle.catalogue.specs.declared.release.Leaps.{Leaps}
use Rattle.catalogue.specs.Releases.{ContentData, ReleaseData, HasLengths, leap_file, leap_expiry}
use Rattle.zone_meaning.specs.Sound.{IsSound, IsSoundFile, IsSoundLeaps}
use Rattle.zone_meaning.specs.FaultLemmas.{file_clear}

label_fits : (text : List ℕ) → IsTrue (is_label text) → length text < 2 ^ 32
unfolding is_label
label_fits text h =
    let both =
    and_parts (nat_le 1 (length text) && nat_le (length text) 64)
    (list_all is_printable text) h in
    let most : length text ≤ 64 =
    leb-true _ _ (and_parts (nat_le 1 (length text)) (nat_le (length text) 64) both.0).1 in
    omega arith

file_fits : (file : List ℕ) → IsSoundFile file → length file < 2 ^ 32
file_fits file s =
    let most : length file ≤ 65536 = (zone_file_of file (file_clear file s.no_fault)).size in
    omega arith

files_fit : (contents : List ContentData) → AllByRecursion (λ c. IsSoundFile c.file) contents
    → AllByRecursion (λ c. length c.file < 2 ^ 32) contents
files_fit [] all = tt
files_fit (c ∷ cs) all = (file_fits c.file all.0, files_fit cs all.1)

leap_file_fits : (leaps : Option Leaps) → IfSome leaps IsSoundLeaps
    → length (leap_file leaps) < 2 ^ 32
leap_file_fits None s = omega arith
leap_file_fits (Some leaps) s =
    let most : length leaps.file ≤ 65536 = (zone_file_of leaps.file s.file).size in
    omega arith

leap_expiry_fits : (leaps : Option Leaps) → IfSome leaps IsSoundLeaps
    → length (leap_expiry leaps) < 2 ^ 32
leap_expiry_fits None s = omega arith
leap_expiry_fits (Some leaps) s =
    let ten : length leaps.expires ≡ 10 =
    ap length (judged_date leaps.expires s.expires).text_is in
    omega arith

pub sound_lengths : (r : ReleaseData) → IsSound r → HasLengths r
sound_lengths r s = record {
  stamp = s.stamp;
  publisher = label_fits r.publisher s.publisher;
  version = label_fits r.version s.version;
  files = files_fit r.contents s.files;
  leap_file = leap_file_fits r.leaps s.leaps;
  leap_expiry = leap_expiry_fits r.leaps s.leaps;
}

pub sound_labels : (r : ReleaseData) → IsSound r → HasPlainLabels r
sound_labels r s =
    record {
      publisher = label_is_plain r.publisher s.publisher;
      version = label_is_plain r.version s.version;
    }
