-- The release that a manifest and its files state, and whether it is the last of a history.
use Rattle.std.specs.Prelude.{◌≡◌, ◌↔◌, List, [], ◌∷◌, Option, None, Some, Result, Bool, IsTrue}
use Rattle.std.specs.Prelude.{◌⊎◌, IfSome, IfOk, IfErr, IsErrOf}
use Rattle.std.specs.Option.{option_map, option_and_then, IsSomeAnd}
use Rattle.td_base.specs.Views.{StoreFailed, File, file_at, LaterStore, StoreView}
use Rattle.catalogue.specs.Histories.{last_release}
use Rattle.catalogue.specs.Order.{rising_by}
use Rattle.catalogue.specs.Releases.{ContentData, ReleaseData}
use Rattle.release_manifest.specs.declared.manifest_type.Manifest.{Manifest}
use Rattle.release_manifest.specs.declared.manifest_type.ManifestZone.{ManifestZone}
use Rattle.release_check.specs.Folder.{release_with}
use Rattle.release_check.specs.declared.check_fault.CheckFault.TheVariants as check
use Rattle.installer.specs.declared.install_fault.InstallFault.{InstallFault}
use Rattle.installer.specs.declared.install_fault.InstallFault.TheVariants as fault

-- a zone of a manifest with its file, its aliases in rising order: none where the file is absent
abbrev pub stated_content : List File → ManifestZone → Option ContentData
stated_content files z =
    option_map
    (λ bytes. record { tzid = z.tzid; aliases = rising_by (λ a. a) z.aliases; file = bytes })
    (file_at files z.file)

-- all of its zones: none where the file of one is absent
abbrev pub stated_contents : List File → List ManifestZone → Option (List ContentData)
stated_contents files [] = Some []
stated_contents files (z ∷ zs) =
    option_and_then (λ c. option_map (λ cs. c ∷ cs) (stated_contents files zs))
    (stated_content files z)

-- the release of a manifest and its files, without leap seconds, whatever the files hold
abbrev pub stated_release : List File → Manifest → Option ReleaseData
stated_release files m =
    option_map (λ contents. release_with m contents None) (stated_contents files m.zones)

-- a release is the one that they state, but for its leap seconds
abbrev pub IsStated : List File → Manifest → ReleaseData → Type 0
IsStated files m r = stated_release files m ≡ Some (record r { leaps = None })

-- so is the last of a history
abbrev pub IsServed : List File → Manifest → List ReleaseData → Type 0
IsServed files m H = IsSomeAnd (last_release H) (IsStated files m)

-- stamp, publisher and version are those of the manifest
pub record HasHead (m : Manifest) (r : ReleaseData) : Type 0 where
  pub stamp : m.stamp.seconds ≡ r.stamp
  pub publisher : m.publisher ≡ r.publisher
  pub version : m.version ≡ r.version

-- A store was looked into for whether something is so: no file changed, the count of faults never
-- falls, the answer is exact where the files are told, and it fails for want of memory and where
-- the store failed, which is told only then.
pub record FindsWhether (old new : StoreView) (IsSo : List File → Type 0)
    (result : Result Bool InstallFault) : Type 0 where
  pub later : LaterStore old new
  pub told : IfSome old.files (λ files. IfOk result (λ so. IsTrue so ↔ IsSo files))
  pub failed : IsErrOf result (fault.Check check.ReadFault) → StoreFailed old new
  pub causes : IfErr result (λ e. (e ≡ fault.NoMemory) ⊎ (e ≡ fault.Check check.ReadFault))
