-- Which release the files under a directory give, or which fault is the first; and where these
-- files stand in a store.
use Rattle.std.specs.Prelude.{◌≡◌, ℕ, ◌+◌, List, [], ◌∷◌, Option, None, Some, Result, Ok, Err, ◌++◌}
use Rattle.std.specs.Prelude.{codes}
use Rattle.td_base.specs.Views.{File, file_at}
use Rattle.td_base.specs.FirstFault.{◌>>=◌}
use Rattle.catalogue.specs.Order.{rising_by}
use Rattle.catalogue.specs.Releases.{ContentData, ReleaseData}
use Rattle.catalogue.specs.declared.release.Leaps.{Leaps}
use Rattle.release_manifest.specs.Reading.{IsManifestText, manifest_text_fault}
use Rattle.release_manifest.specs.declared.manifest_type.Manifest.{Manifest}
use Rattle.release_manifest.specs.declared.manifest_type.ManifestZone.{ManifestZone}
use Rattle.release_manifest.specs.declared.manifest_type.ManifestLeaps.{ManifestLeaps}
use Rattle.release_manifest.specs.declared.manifest_fault.ManifestFault.{ManifestFault}
use Rattle.release_check.specs.Before.{Before}
use Rattle.release_check.specs.LeapFile.{leap_file_fault, table_of}
use Rattle.release_check.specs.Faults.{form_fault, manifest_fault, file_fault}
use Rattle.release_check.specs.declared.check_fault.CheckFault.{CheckFault}
use Rattle.release_check.specs.declared.check_fault.CheckFault.TheVariants as fault

-- the path of a file in a directory; an empty directory gives the name alone
abbrev pub path_in : List ℕ → List ℕ → List ℕ
path_in [] name = name
path_in (b ∷ dir) name = (b ∷ dir) ++ 47 ∷ name

abbrev pub manifest_path : List ℕ → List ℕ
manifest_path dir = path_in dir (codes "manifest.json")

-- a result, unless there is a fault
abbrev pub unless : {A : Type 0} → Option CheckFault → Result A CheckFault → Result A CheckFault
unless (Some f) r = Err f
unless None r = r

-- the zone with this number over the file at its path, its aliases in rising order
abbrev pub content_from : ℕ → List ℕ → ManifestZone → Option (List ℕ)
    → Result ContentData CheckFault
content_from n path z None = Err (fault.Absent path)
content_from n path z (Some bytes) =
    unless (file_fault n bytes)
    (Ok (record { tzid = z.tzid; aliases = rising_by (λ a. a) z.aliases; file = bytes }))

unfoldable pub content_in : List File → List ℕ → ℕ → ManifestZone → Result ContentData CheckFault
content_in files dir n z =
    content_from n (path_in dir z.file) z (file_at files (path_in dir z.file))

-- the zones from this number on, each in turn
abbrev pub contents_in : List File → List ℕ → ℕ → List ManifestZone
    → Result (List ContentData) CheckFault
contents_in files dir n [] = Ok []
contents_in files dir n (z ∷ zs) =
    content_in files dir n z >>= λ c. contents_in files dir (n + 1) zs >>= λ cs. Ok (c ∷ cs)

-- the table of leap seconds over the file at its path
abbrev pub table_from : List ℕ → List ℕ → Option (List ℕ) → Result (Option Leaps) CheckFault
table_from path expires None = Err (fault.Absent path)
table_from path expires (Some bytes) =
    unless (leap_file_fault bytes) (Ok (Some (table_of bytes expires)))

-- the table that a manifest names, if it names one
abbrev pub table_in : List File → List ℕ → Option ManifestLeaps → Result (Option Leaps) CheckFault
table_in files dir None = Ok None
table_in files dir (Some leaps) =
    table_from (path_in dir leaps.file) leaps.expires (file_at files (path_in dir leaps.file))

-- the release of a manifest, its zones in rising order
abbrev pub release_with : Manifest → List ContentData → Option Leaps → ReleaseData
release_with m contents leaps = record {
  stamp = m.stamp.seconds;
  publisher = m.publisher;
  version = m.version;
  contents = rising_by (λ c. c.tzid) contents;
  leaps = leaps;
}

-- the release of a manifest and the files of its directory after what stands before it, or the
-- first fault: of what the manifest says, then of the zones, and last of the leap seconds
unfoldable pub release_in : List File → List ℕ → Before → Manifest → Result ReleaseData CheckFault
release_in files dir before m =
    unless (manifest_fault before m)
    (contents_in files dir 0 m.zones >>= λ cs. table_in files dir m.leaps >>= λ leaps.
    Ok (release_with m cs leaps))

-- the same of a manifest value, whose texts are judged first
abbrev pub examined_in : List File → List ℕ → Before → Manifest → Result ReleaseData CheckFault
examined_in files dir before m = unless (form_fault m) (release_in files dir before m)

-- what a directory gives after what stands before it: a fault where the manifest is absent or
-- refused, and else what the manifest and the files that it names give
pub data FolderGives (files : List File) (dir : List ℕ) (before : Before)
    : Result ReleaseData CheckFault → Type 0 where
  absent : file_at files (manifest_path dir) ≡ None
      → FolderGives files dir before (Err (fault.Absent (manifest_path dir)))
  refused : (text : List ℕ) (f : ManifestFault) → file_at files (manifest_path dir) ≡ Some text
      → manifest_text_fault text ≡ Some f → FolderGives files dir before (Err (fault.Manifest f))
  read : (text : List ℕ) (m : Manifest) → file_at files (manifest_path dir) ≡ Some text
      → IsManifestText text m → FolderGives files dir before (release_in files dir before m)
