-- What a row of folders gives, each checked against the releases of those before it, and asked some
-- rules. Where the store does not tell its files, this is said of some releases.
use Rattle.std.specs.Prelude.{◌≡◌, ◌≢◌, ℕ, List, [], ◌∷◌, ◌++◌, Option, None, Some, IfSome, Result}
use Rattle.std.specs.Prelude.{Ok, Err, ⊤}
use Rattle.admission.specs.declared.rules.Chosen.{Chosen}
use Rattle.td_base.specs.Views.{File, StoreFailed, StoreView}
use Rattle.catalogue.specs.Releases.{ReleaseData}
use Rattle.console.specs.Replies.{reply_text}
use Rattle.console.specs.declared.said.Said.TheVariants as said
use Rattle.release_check.specs.Before.{before_of}
use Rattle.release_check.specs.Folder.{FolderGives}
use Rattle.installer.specs.FaultText.{fault_text}
use Rattle.installer.specs.Installing.{GivesFault, IsRefusedAt, refusal}
use Rattle.installer.specs.declared.install_fault.InstallFault.{InstallFault}
use Rattle.installer.specs.declared.install_fault.InstallFault.TheVariants as install
use Rattle.release_check.specs.declared.check_fault.CheckFault.TheVariants as fault
use Rattle.run_ends.specs.Outside.{LeavesStreams, Outside}
use Rattle.run_ends.specs.Printing.{Printed, refused_line}
use Rattle.run_ends.specs.Replies.{last_token}
use Rattle.run_ends.specs.declared.status.Status.{Status}
use Rattle.run_ends.specs.declared.status.Status.TheVariants as status

-- a refusal: neither did memory run out nor a read fail
abbrev pub IsRefusal : InstallFault → Type 0
IsRefusal install.NoMemory = ⊥
IsRefusal (install.Check f) = (f ≢ fault.NoMemory) × (f ≢ fault.ReadFault)
IsRefusal (install.Policy k) = ⊤

-- where a rule refuses, it is the first that refuses some release, which is sound and fits
abbrev pub IsOfRule : List Chosen → List ReleaseData → InstallFault → Type 0
IsOfRule rules H (install.Policy k) = IsRefusedAt rules H k
IsOfRule rules H e = ⊤

-- a folder that comes after these releases gives one more, which no rule refuses, or it is refused
abbrev pub GivesAfter : Option (List File) → List Chosen → List ReleaseData → List ℕ
    → Result ReleaseData InstallFault → Type 0
GivesAfter files rules H dir (Ok r) =
    (refusal rules H r ≡ None) × IfSome files (λ fs. FolderGives fs dir (before_of H) (Ok r))
GivesAfter files rules H dir (Err e) =
    IsOfRule rules H e × IfSome files (λ fs. GivesFault fs dir rules H e)

-- what `install` gets said of a folder that comes after these releases, and the release that joins
-- them, if one does
pub data InstallsFolder (old new : StoreView) (rules : List Chosen) (H : List ReleaseData)
    (dir answer : List ℕ) : Option ReleaseData → Type 0 where
  installed : (r : ReleaseData) → GivesAfter old.files rules H dir (Ok r)
      → answer ≡ reply_text (said.Installed (last_token (H ++ r ∷ [])))
      → InstallsFolder old new rules H dir answer (Some r)
  refused : (e : InstallFault) → GivesAfter old.files rules H dir (Err e) → IsRefusal e
      → answer ≡ reply_text (said.Refused (fault_text e))
      → InstallsFolder old new rules H dir answer None
  -- the store failed
  unread : StoreFailed old new
      → answer ≡ reply_text (said.Refused (fault_text (install.Check fault.ReadFault)))
      → InstallsFolder old new rules H dir answer None
  -- memory ran out
  starved : answer ≡ reply_text said.NoMemory → InstallsFolder old new rules H dir answer None

-- the folders give these releases, one each
pub data FoldersGive (files : Option (List File)) (rules : List Chosen)
    : List (List ℕ) → List ReleaseData → Type 0 where
  none : FoldersGive files rules [] []
  more : (dirs : List (List ℕ)) (H : List ReleaseData) (dir : List ℕ) (r : ReleaseData)
      → FoldersGive files rules dirs H → GivesAfter files rules H dir (Ok r)
      → FoldersGive files rules (dirs ++ dir ∷ []) (H ++ r ∷ [])

-- the first of the folders give these releases
pub record FoldersBegin (files : Option (List File)) (rules : List Chosen) (dirs : List (List ℕ))
    (H : List ReleaseData) : Type 0 where
  pub first : List (List ℕ)
  pub rest : List (List ℕ)
  pub dirs_are : dirs ≡ first ++ rest
  pub give : FoldersGive files rules first H

-- the folders before one give these releases, and that one is refused
pub record StopsAtFault (files : Option (List File)) (rules : List Chosen) (dirs : List (List ℕ))
    (H : List ReleaseData) (f : InstallFault) : Type 0 where
  pub first : List (List ℕ)
  pub dir : List ℕ
  pub rest : List (List ℕ)
  pub dirs_are : dirs ≡ first ++ dir ∷ rest
  pub give : FoldersGive files rules first H
  pub gives : GivesAfter files rules H dir (Err f)
  pub is_refusal : IsRefusal f

-- how a run that is to serve the releases of folders, under rules, ends before it serves any
pub data ServesNothing (rules : List Chosen) (dirs : List (List ℕ)) (before after : Outside)
    : Status → Type 0 where
  -- one folder is refused; the input is left alone
  refused : (H : List ReleaseData) (e : InstallFault) (end : Status)
      → StopsAtFault before.store.files rules dirs H e
      → Printed status.Refused (refused_line (fault_text e)) before.output after.output end
      → after.input ≡ before.input → ServesNothing rules dirs before after end
  -- a file was not read
  unread : StoreFailed before.store after.store → LeavesStreams before after
      → ServesNothing rules dirs before after status.NotRead
  out_of_memory : LeavesStreams before after
      → ServesNothing rules dirs before after status.NoMemory
