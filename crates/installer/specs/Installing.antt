-- What an install makes of a history.
use Rattle.std.specs.Prelude.{◌≡◌, ⊤, ℕ, List, [], ◌∷◌, ◌++◌, Option, None, Some}
use Rattle.std.specs.Prelude.{Result, Ok, Err, IfSome, IsErrOf}
use Rattle.admission.specs.Differences.{difference}
use Rattle.admission.specs.Rules.{first_refusing}
use Rattle.admission.specs.declared.rules.Chosen.{Chosen}
use Rattle.td_base.specs.Views.{StoreFailed, File, LaterStore, StoreView}
use Rattle.catalogue.specs.Histories.{Fits}
use Rattle.catalogue.specs.Releases.{ReleaseData}
use Rattle.zone_meaning.specs.Sound.{IsSound}
use Rattle.release_manifest.specs.declared.manifest_type.Manifest.{Manifest}
use Rattle.release_check.specs.Found.{Blames}
use Rattle.release_check.specs.declared.check_fault.CheckFault.{CheckFault}
use Rattle.release_check.specs.declared.check_fault.CheckFault.TheVariants as check
use Rattle.release_check.specs.Before.{Before, before_of}
use Rattle.release_check.specs.Folder.{FolderGives, examined_in}
use Rattle.installer.specs.declared.install_fault.InstallFault.{InstallFault}
use Rattle.installer.specs.declared.install_fault.InstallFault.TheVariants as fault

-- ---- by whatever gives a release, or a fault, after what stands before it

-- the position, counted from 1, of the first of some rules that refuses a release after a history;
-- none refuses the first release
abbrev pub refusal : List Chosen → List ReleaseData → ReleaseData → Option ℕ
refusal rules [] r = None
refusal rules (h ∷ H) r = first_refusing rules (difference (h ∷ H) r)

-- it gives this fault after the history, or a release that this rule is the first to refuse. Out of
-- memory and a failed read are tied to no file.
abbrev pub RefusedBy : (Before → Result ReleaseData CheckFault → Type 0) → List Chosen
    → List ReleaseData → InstallFault → Type 0
RefusedBy gives rules H fault.NoMemory = ⊤
RefusedBy gives rules H (fault.Check f) = Blames f (gives (before_of H) (Err f))
RefusedBy gives rules H (fault.Policy k) =
    (r : ReleaseData) × gives (before_of H) (Ok r) × (refusal rules H r ≡ Some k)

-- the release that it gives after the history, which no rule refuses, has joined it, or it gives
-- the fault
abbrev pub InstalledBy : {A : Type 0} → (Before → Result ReleaseData CheckFault → Type 0)
    → List Chosen → List ReleaseData → (A → List ReleaseData) → Result A InstallFault → Type 0
InstalledBy gives rules H history (Ok a) =
    (r : ReleaseData) × gives (before_of H) (Ok r) × (refusal rules H r ≡ None)
    × (history a ≡ H ++ r ∷ [])
InstalledBy gives rules H history (Err e) = RefusedBy gives rules H e

-- why the rules do not let a release pass: the first that refuses it, or want of memory
abbrev pub IsPolicyOf : List Chosen → List ReleaseData → ReleaseData → InstallFault → Type 0
IsPolicyOf rules H r fault.NoMemory = ⊤
IsPolicyOf rules H r (fault.Check f) = ⊥
IsPolicyOf rules H r (fault.Policy k) = refusal rules H r ≡ Some k

-- a release that is sound and fits, and which this rule is the first to refuse
pub record IsRefusedAt (rules : List Chosen) (H : List ReleaseData) (k : ℕ) : Type 0 where
  pub release : ReleaseData
  pub sound : IsSound release
  pub fits : Fits H release
  pub refused : refusal rules H release ≡ Some k

-- A store was looked into for what its files give: no file changed, the count of faults never
-- falls, the answer is tied to the files where they are told, a rule refuses only what is a release
-- after the history, a failed read is answered only where the store failed, and want of memory is
-- told as itself alone.
pub record InstallsBy {A : Type 0}
    (gives : List File → Before → Result ReleaseData CheckFault → Type 0) (rules : List Chosen)
    (old new : StoreView) (H : List ReleaseData) (history : A → List ReleaseData)
    (result : Result A InstallFault) : Type 0 where
  pub later : LaterStore old new
  pub told : IfSome old.files (λ files. InstalledBy (gives files) rules H history result)
  pub policy : (k : ℕ) → IsErrOf result (fault.Policy k) → IsRefusedAt rules H k
  pub failed : IsErrOf result (fault.Check check.ReadFault) → StoreFailed old new
  pub memory : IsErrOf result (fault.Check check.NoMemory) → ⊥

-- ---- by a folder

-- it is refused: it gives this fault after the history
abbrev pub GivesFault : List File → List ℕ → List Chosen → List ReleaseData → InstallFault → Type 0
GivesFault files dir rules H e = RefusedBy (FolderGives files dir) rules H e

-- its release has joined the history, or it is refused
abbrev pub Installed : {A : Type 0} → List File → List ℕ → List Chosen → List ReleaseData
    → (A → List ReleaseData) → Result A InstallFault → Type 0
Installed files dir rules H history result =
    InstalledBy (FolderGives files dir) rules H history result

abbrev pub Installs : {A : Type 0} → StoreView → StoreView → List ℕ → List Chosen
    → List ReleaseData → (A → List ReleaseData) → Result A InstallFault → Type 0
Installs old new dir rules H history result =
    InstallsBy (λ files. FolderGives files dir) rules old new H history result

-- ---- by a manifest that is at hand, whose files stand in the store's own top

abbrev pub ManifestGives : Manifest → List File → Before → Result ReleaseData CheckFault → Type 0
ManifestGives m files before r = examined_in files [] before m ≡ r

abbrev pub InstallsStated : {A : Type 0} → StoreView → StoreView → Manifest → List Chosen
    → List ReleaseData → (A → List ReleaseData) → Result A InstallFault → Type 0
InstallsStated old new m rules H history result =
    InstallsBy (ManifestGives m) rules old new H history result

-- ---- how it grows

-- a history with one release more, which is sound and fits and which no rule refuses
pub record GrowsBy (rules : List Chosen) (H now : List ReleaseData) : Type 0 where
  pub release : ReleaseData
  pub now_is : now ≡ H ++ release ∷ []
  pub sound : IsSound release
  pub fits : Fits H release
  pub allowed : refusal rules H release ≡ None
