-- What looking into a folder answers. Out of memory and a failed read are tied to no file.
use Rattle.std.specs.Prelude.{◌≡◌, ◌≢◌, ⊤, ℕ, Option, List, [], ◌∷◌, take, map, None, Some, Result}
use Rattle.std.specs.Prelude.{Ok, Err, IfSome, IsErrOf}
use Rattle.std.specs.Option.{option_map}
use Rattle.td_base.specs.Views.{StoreFailed, File, file_at, LaterStore, StoreView}
use Rattle.catalogue.specs.Order.{rising_by}
use Rattle.catalogue.specs.Releases.{ContentData, ReleaseData, content_data, release_data}
use Rattle.catalogue.specs.declared.release.Leaps.{Leaps}
use Rattle.catalogue.specs.declared.release.Content.{Content}
use Rattle.catalogue.specs.declared.release.Release.{Release}
use Rattle.release_manifest.specs.Reading.{IsManifestText}
use Rattle.release_manifest.specs.declared.manifest_type.Manifest.{Manifest}
use Rattle.release_manifest.specs.declared.manifest_type.ManifestZone.{ManifestZone}
use Rattle.release_manifest.specs.declared.manifest_type.ManifestLeaps.{ManifestLeaps}
use Rattle.zone_meaning.specs.Sound.{IsSoundFile}
use Rattle.zone_meaning.specs.ZoneHistories.{zone_bytes}
use Rattle.release_check.specs.Before.{Before}
use Rattle.release_check.specs.Folder.{FolderGives, content_in, contents_in, examined_in}
use Rattle.release_check.specs.Folder.{release_in, table_in, manifest_path}
use Rattle.release_check.specs.declared.check_fault.CheckFault.{CheckFault}
use Rattle.release_check.specs.declared.check_fault.CheckFault.TheVariants as fault

-- A store was looked into: no file changed, the count of faults never falls, the answer is tied to
-- the files where they are told, and a failed read is answered only where the store failed.
pub record FindsIn {T : Type 0} (old new : StoreView) (result : Result T CheckFault)
    (Told : List File → Type 0) : Type 0 where
  pub later : LaterStore old new
  pub told : IfSome old.files Told
  pub failed : IsErrOf result fault.ReadFault → StoreFailed old new

-- a fault that the files are answerable for
abbrev pub Blames : CheckFault → Type 0 → Type 0
Blames e P = e ≢ fault.NoMemory → e ≢ fault.ReadFault → P

-- the first bytes of a file of the path, or there is none
abbrev pub IsFile : List ℕ → ℕ → Result (List ℕ) CheckFault → List File → Type 0
IsFile path most (Ok bytes) files = option_map (take most) (file_at files path) ≡ Some bytes
IsFile path most (Err e) files = Blames e ((e ≡ fault.Absent path) × (file_at files path ≡ None))

-- the manifest of a directory, or why there is none
abbrev pub IsManifestIn : List ℕ → Before → Result Manifest CheckFault → List File → Type 0
IsManifestIn dir before (Ok m) files =
    (text : List ℕ) × (file_at files (manifest_path dir) ≡ Some text) × IsManifestText text m
IsManifestIn dir before (Err e) files = Blames e (FolderGives files dir before (Err e))

-- a zone with its file, or its first fault
abbrev pub IsZoneIn : List ℕ → ℕ → ManifestZone → Result (Content (List ℕ)) CheckFault
    → List File → Type 0
IsZoneIn dir n z (Ok c) files = content_in files dir n z ≡ Ok (content_data zone_bytes c)
IsZoneIn dir n z (Err e) files = Blames e (content_in files dir n z ≡ Err e)

-- all zones with their files, or the first fault of one
abbrev pub AreZonesIn : List ℕ → List ManifestZone → Result (List (Content (List ℕ))) CheckFault
    → List File → Type 0
AreZonesIn dir zs (Ok cs) files =
    contents_in files dir 0 zs ≡ Ok (map (content_data zone_bytes) cs)
AreZonesIn dir zs (Err e) files = Blames e (contents_in files dir 0 zs ≡ Err e)

-- the table that a manifest names, or its fault
abbrev pub IsTableIn : List ℕ → Option ManifestLeaps → Result (Option Leaps) CheckFault → List File
    → Type 0
IsTableIn dir named (Ok table) files = table_in files dir named ≡ Ok table
IsTableIn dir named (Err e) files = Blames e (table_in files dir named ≡ Err e)

-- an answer that is this result
abbrev pub IsAnswerOf : Result ReleaseData CheckFault → Result (Release (List ℕ)) CheckFault
    → Type 0
IsAnswerOf given (Ok r) = given ≡ Ok (release_data zone_bytes r)
IsAnswerOf given (Err e) = Blames e (given ≡ Err e)

-- the release of a manifest and the files of a directory after what stands before it, or the first
-- fault, where the texts of the manifest have their forms and where they are judged
abbrev pub IsOfManifest : List ℕ → Manifest → Before → Result (Release (List ℕ)) CheckFault
    → List File → Type 0
IsOfManifest dir m before result files = IsAnswerOf (release_in files dir before m) result

abbrev pub IsExaminedIn : List ℕ → Manifest → Before → Result (Release (List ℕ)) CheckFault
    → List File → Type 0
IsExaminedIn dir m before result files = IsAnswerOf (examined_in files dir before m) result

-- the release of a directory after what stands before it, or its first fault
abbrev pub IsReleaseIn : List ℕ → Before → Result (Release (List ℕ)) CheckFault → List File → Type 0
IsReleaseIn dir before (Ok r) files =
    FolderGives files dir before (Ok (release_data zone_bytes r))
IsReleaseIn dir before (Err e) files = Blames e (FolderGives files dir before (Err e))

-- the zone of the manifest, with a sound file
pub record IsOf (z : ManifestZone) (c : ContentData) : Type 0 where
  pub tzid : c.tzid ≡ z.tzid
  pub aliases : c.aliases ≡ rising_by (λ a. a) z.aliases
  pub file : IsSoundFile c.file

-- the zones of the manifest, one for one
abbrev pub AreOf : List ManifestZone → List ContentData → Type 0
AreOf [] [] = ⊤
AreOf [] (c ∷ cs) = ⊥
AreOf (z ∷ zs) [] = ⊥
AreOf (z ∷ zs) (c ∷ cs) = IsOf z c × AreOf zs cs
