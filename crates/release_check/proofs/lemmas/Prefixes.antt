-- Of a file no more is read than one byte past its limit, which judges it as the whole file would
-- be judged.
use Rattle.std.proofs.Common.{◌≡◌, ℕ, ◌<◌, ◌≤◌, nat_lt, nat_le, Bool, true, false, List, length}
use Rattle.std.proofs.Common.{take, Option, None, Some, Ok, Err, inl, inr, ◌⊎◌, ⊎_elim, ap, sym}
use Rattle.std.proofs.Common.{◌∙◌, refl, subst, arith}
use Rattle.std.specs.Option.{option_map}
use Rattle.std.proofs.lemmas.Bool.Decides.{nat_tests}
use Rattle.std.proofs.lemmas.List.{take_all, length-take-le}
use Rattle.td_base.specs.Views.{File, file_at}
use Rattle.catalogue.specs.Releases.{ContentData, content_data}
use Rattle.catalogue.specs.Order.{rising_by}
use Rattle.catalogue.specs.declared.release.Content.{Content}
use Rattle.zone_meaning.specs.ZoneHistories.{zone_bytes}
use Rattle.release_manifest.specs.Reading.{IsManifestText, manifest_text_fault}
use Rattle.release_manifest.specs.declared.manifest_fault.ManifestFault.TheVariants as manifest
use Rattle.release_manifest.specs.declared.manifest_type.Manifest.{Manifest}
use Rattle.release_manifest.specs.declared.manifest_type.ManifestZone.{ManifestZone}
use Rattle.tzif_reader.specs.Faults.{first_fault, frame_fault}
use Rattle.tzif_reader.specs.declared.tzif_fault.TzifFault.TheVariants as tzif
use Rattle.tzif_reader.specs.declared.zone_file.TheConstants.{MOST_BYTES}
use Rattle.release_manifest.specs.declared.manifest_type.TheConstants.{MOST_BYTES as MOST_MANIFEST}
use Rattle.release_check.specs.declared.files.TheConstants.{ZONE_ROOM, MANIFEST_ROOM}
use Rattle.release_check.specs.Folder.{content_in, content_from, unless, path_in}
use Rattle.release_check.specs.Faults.{file_fault}
use Rattle.release_check.specs.declared.check_fault.CheckFault.{CheckFault}
use Rattle.release_check.specs.declared.check_fault.CheckFault.TheVariants as fault
use Rattle.release_check.proofs.ZoneFiles.{file_fault-tzif}

-- one number is above another, or not
split : (b : Bool) (n m : ℕ) → b ≡ nat_lt n m → (n < m) ⊎ (m ≤ n)
split true n m e = inl (grind (arith, nat_tests))
split false n m e = inr (grind (arith, nat_tests))

-- the whole of a list is read, or one more than so many
pub fits_or_longer : (n : ℕ) (w : List ℕ) → (n < length w) ⊎ (length w ≤ n)
fits_or_longer n w = split (nat_lt n (length w)) n (length w) refl

-- a file past its limit
pub too_large : (bytes : List ℕ) → MOST_BYTES < length bytes → first_fault bytes ≡ Some tzif.TooLarge
unfolding first_fault frame_fault
too_large bytes long = let test : nat_lt MOST_BYTES (length bytes) ≡ true = grind (arith, nat_tests) in rw test refl

-- a zone's file
pub file_fault-prefix : (n : ℕ) (whole : List ℕ) → file_fault n (take ZONE_ROOM whole) ≡ file_fault n whole
file_fault-prefix n whole = ⊎_elim
    (λ (long : MOST_BYTES < length whole).
    let size : length (take ZONE_ROOM whole) ≡ ZONE_ROOM = length-take-le ZONE_ROOM whole (omega arith) in
    file_fault-tzif n (take ZONE_ROOM whole) tzif.TooLarge (too_large _ (omega arith))
    ∙ sym (file_fault-tzif n whole tzif.TooLarge (too_large whole long)))
    (λ (fits : length whole ≤ MOST_BYTES). ap (file_fault n) (take_all ZONE_ROOM whole (omega arith)))
    (fits_or_longer MOST_BYTES whole)

-- a file without a fault is read whole
pub prefix-whole : (n : ℕ) (whole : List ℕ) → file_fault n (take ZONE_ROOM whole) ≡ None → take ZONE_ROOM whole ≡ whole
prefix-whole n whole none = ⊎_elim
    (λ (long : MOST_BYTES < length whole).
    let size : length (take ZONE_ROOM whole) ≡ ZONE_ROOM = length-take-le ZONE_ROOM whole (omega arith) in
    let some : file_fault n (take ZONE_ROOM whole) ≡ Some (fault.Tzif n tzif.TooLarge) =
    file_fault-tzif n (take ZONE_ROOM whole) tzif.TooLarge (too_large _ (omega arith)) in
    cc)
    (λ (fits : length whole ≤ MOST_BYTES). take_all ZONE_ROOM whole (omega arith))
    (fits_or_longer MOST_BYTES whole)

-- a zone of a manifest over the bytes of its file
abbrev pub content_with : ManifestZone → List ℕ → ContentData
content_with z bytes = record { tzid = z.tzid; aliases = rising_by (λ a. a) z.aliases; file = bytes }

-- the file of a zone, where its first bytes were read
content_prefix : (n : ℕ) (path : List ℕ) (z : ManifestZone) (found : Option (List ℕ)) (prefix : List ℕ) (c : Content (List ℕ))
    → option_map (take ZONE_ROOM) found ≡ Some prefix → file_fault n prefix ≡ None → c.tzid ≡ z.tzid → c.aliases ≡ z.aliases → c.zone ≡ prefix
    → content_from n path z found ≡ Ok (content_data zone_bytes c)
content_prefix n path z None prefix c read none tzid aliases zone = cc
content_prefix n path z (Some whole) prefix c read none tzid aliases zone =
    let is : take ZONE_ROOM whole ≡ prefix = cc in
    let clean : file_fault n (take ZONE_ROOM whole) ≡ None = ap (file_fault n) is ∙ none in
    ap (λ f. unless f (Ok (content_with z whole))) (sym (file_fault-prefix n whole) ∙ clean)
    ∙ rw (tzid, aliases, zone, ← is, prefix-whole n whole clean) refl

content_prefix_refused : (n : ℕ) (path : List ℕ) (z : ManifestZone) (found : Option (List ℕ)) (prefix : List ℕ) (f : CheckFault)
    → option_map (take ZONE_ROOM) found ≡ Some prefix → file_fault n prefix ≡ Some f → content_from n path z found ≡ Err f
content_prefix_refused n path z None prefix f read is = cc
content_prefix_refused n path z (Some whole) prefix f read is =
    let same : take ZONE_ROOM whole ≡ prefix = cc in
    ap (λ f. unless f (Ok (content_with z whole))) (sym (file_fault-prefix n whole) ∙ (ap (file_fault n) same ∙ is))

-- the same of the files of a directory
pub content_read : (files : List File) (dir : List ℕ) (n : ℕ) (z : ManifestZone) (prefix : List ℕ) (c : Content (List ℕ))
    → option_map (take ZONE_ROOM) (file_at files (path_in dir z.file)) ≡ Some prefix → file_fault n prefix ≡ None → c.tzid ≡ z.tzid → c.aliases ≡ z.aliases
    → c.zone ≡ prefix → content_in files dir n z ≡ Ok (content_data zone_bytes c)
unfolding content_in
content_read files dir n z prefix c read none tzid aliases zone =
    content_prefix n (path_in dir z.file) z (file_at files (path_in dir z.file)) prefix c read none tzid aliases zone

pub content_refused : (files : List File) (dir : List ℕ) (n : ℕ) (z : ManifestZone) (prefix : List ℕ) (f : CheckFault)
    → option_map (take ZONE_ROOM) (file_at files (path_in dir z.file)) ≡ Some prefix → file_fault n prefix ≡ Some f → content_in files dir n z ≡ Err f
unfolding content_in
content_refused files dir n z prefix f read is =
    content_prefix_refused n (path_in dir z.file) z (file_at files (path_in dir z.file)) prefix f read is

pub content_absent : (files : List File) (dir : List ℕ) (n : ℕ) (z : ManifestZone) → file_at files (path_in dir z.file) ≡ None
    → content_in files dir n z ≡ Err (fault.Absent (path_in dir z.file))
unfolding content_in
content_absent files dir n z none = ap (content_from n (path_in dir z.file) z) none

-- a manifest past its limit
too_long : (text : List ℕ) → MOST_MANIFEST < length text → manifest_text_fault text ≡ Some manifest.Long
unfolding manifest_text_fault
too_long text long = let test : nat_le (length text) MOST_MANIFEST ≡ false = grind (arith, nat_tests) in rw test refl

pub manifest_text_fault-prefix : (whole : List ℕ) → manifest_text_fault (take MANIFEST_ROOM whole) ≡ manifest_text_fault whole
manifest_text_fault-prefix whole = ⊎_elim
    (λ (long : MOST_MANIFEST < length whole).
    let size : length (take MANIFEST_ROOM whole) ≡ MANIFEST_ROOM = length-take-le MANIFEST_ROOM whole (omega arith) in
    too_long _ (omega arith) ∙ sym (too_long whole long))
    (λ (fits : length whole ≤ MOST_MANIFEST). ap manifest_text_fault (take_all MANIFEST_ROOM whole (omega arith)))
    (fits_or_longer MOST_MANIFEST whole)

pub manifest-prefix : (whole : List ℕ) (m : Manifest) → IsManifestText (take MANIFEST_ROOM whole) m → IsManifestText whole m
manifest-prefix whole m h = ⊎_elim
    (λ (long : MOST_MANIFEST < length whole).
    let size : length (take MANIFEST_ROOM whole) ≡ MANIFEST_ROOM = length-take-le MANIFEST_ROOM whole (omega arith) in
    let fits : length (take MANIFEST_ROOM whole) ≤ MOST_MANIFEST = h.fits in
    absurd (omega arith))
    (λ (fits : length whole ≤ MOST_MANIFEST). subst (λ (t : List ℕ). IsManifestText t m) (take_all MANIFEST_ROOM whole (omega arith)) h)
    (fits_or_longer MOST_MANIFEST whole)
