-- What installing a row of folders comes to.
use Rattle.std.specs.Prelude.{◌≡◌, ◌≤◌, ℕ, List, [], ◌++◌, length, All, Option, Result, Ok, Err}
use Rattle.std.specs.Prelude.{IsErrOf}
use Rattle.admission.specs.declared.rules.Chosen.{Chosen}
use Rattle.td_base.specs.Views.{StoreFailed, File, LaterStore, StoreView}
use Rattle.catalogue.specs.Releases.{ReleaseData}
use Rattle.catalogue.specs.declared.holding.Catalogue.{Catalogue}
use Rattle.catalogue.specs.Holdings.{history_of}
use Rattle.installer.specs.declared.install_fault.InstallFault.{InstallFault}
use Rattle.installer.specs.declared.install_fault.InstallFault.TheVariants as install
use Rattle.logbook.specs.Pages.{Book}
use Rattle.publication.specs.Views.{DeskView}
use Rattle.release_check.specs.declared.check_fault.CheckFault.TheVariants as fault
use Rattle.run_ends.specs.Folders.{FoldersGive, IsRefusal, StopsAtFault}
use Rattle.run_ends.specs.declared.opening.OpenedServer.{OpenedServer}

-- the folders were not all installed: one of them is refused, unless memory or a read failed
abbrev pub Refused : Option (List File) → List Chosen → List (List ℕ) → InstallFault → Type 0
Refused files rules dirs e =
    IsRefusal e → (H : List ReleaseData) × StopsAtFault files rules dirs H e

-- folders that come after others were installed, and their history is now this one
abbrev pub Extends : Option (List File) → List Chosen → List (List ℕ) → List ReleaseData
    → List ReleaseData → Type 0
Extends files rules dirs old now =
    (first : List (List ℕ)) → FoldersGive files rules first old
    → FoldersGive files rules (first ++ dirs) now

abbrev pub RestCame : Option (List File) → List Chosen → List (List ℕ) → List ReleaseData
    → List ReleaseData → Result Unit InstallFault → Type 0
RestCame files rules dirs old now (Ok u) = Extends files rules dirs old now
RestCame files rules dirs old now (Err e) =
    (first : List (List ℕ)) → FoldersGive files rules first old
    → Refused files rules (first ++ dirs) e

-- folders were installed after others, up to the first that is refused; want of memory is told as
-- itself alone
pub record InstallsRest (rules : List Chosen) (dirs : List (List ℕ)) (s t : StoreView)
    (old now : List (Catalogue (List ℕ))) (result : Result Unit InstallFault) : Type 0 where
  pub later : LaterStore s t
  pub failed : IsErrOf result (install.Check fault.ReadFault) → StoreFailed s t
  pub memory : IsErrOf result (install.Check fault.NoMemory) → ⊥
  pub came : RestCame s.files rules dirs (history_of old) (history_of now) result

-- the catalogues that were published, where the folders were installed
abbrev pub published_in : Result OpenedServer InstallFault
    → Result (List (Catalogue (List ℕ))) InstallFault
published_in (Ok opened) = Ok opened.session.installer.list
published_in (Err e) = Err e

abbrev pub AllCame : Option (List File) → List Chosen → List (List ℕ)
    → Result (List (Catalogue (List ℕ))) InstallFault → Type 0
AllCame files rules dirs (Ok list) = FoldersGive files rules dirs (history_of list)
AllCame files rules dirs (Err e) = Refused files rules dirs e

-- the folders were installed, up to the first that is refused; want of memory is told as itself
-- alone
pub record InstallsAll (rules : List Chosen) (dirs : List (List ℕ)) (s t : StoreView)
    (result : Result (List (Catalogue (List ℕ))) InstallFault) : Type 0 where
  pub later : LaterStore s t
  pub failed : IsErrOf result (install.Check fault.ReadFault) → StoreFailed s t
  pub memory : IsErrOf result (install.Check fault.NoMemory) → ⊥
  pub came : AllCame s.files rules dirs result

-- a desk of a pair has seen so many published values, or more
pub record HasSeen (pair : Book) (least : ℕ) (desk : DeskView (Catalogue (List ℕ)))
    : Type 0 where
  pub pair_is : desk.pair ≡ pair
  pub many : least ≤ length desk.seen

-- so many further desks were made, of the same pair, which have seen all that was published, and
-- nobody has subscribed
pub record HasDesks (workers : ℕ) (opened : OpenedServer) : Type 0 where
  pub number : length opened.desks.items ≡ workers
  pub seen : All (HasSeen opened.session.installer.pair (length opened.session.installer.list))
      opened.desks.items
  pub nobody : opened.session.installer.subscribers ≡ []
