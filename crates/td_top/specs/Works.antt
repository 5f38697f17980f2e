-- The works of a server's workers, and what comes of them.
use Rattle.std.specs.Prelude.{◌≡◌, ℕ, List, [], ◌∷◌, map, All, Bool, ⊤}
use Rattle.std.specs.List.{list_any}
use mathlib.Core.List.{IsPrefix}
use Rattle.td_base.specs.DoorViews.{DoorView}
use Rattle.td_base.specs.declared.report.Role.{Role}
use Rattle.catalogue.specs.declared.holding.Catalogue.{Catalogue}
use Rattle.connection.specs.DoorWorks.{WorkView}
use Rattle.connection.specs.declared.door_work.DoorDone.{DoorDone}
use Rattle.logbook.specs.Pages.{Book}
use Rattle.run_ends.specs.Opening.{HasSeen}

-- the works of such a server serve these doors, in order, by such desks
abbrev pub AreWorks : Role → Book → ℕ → List DoorView → List WorkView → Type 0
AreWorks server pair least [] [] = ⊤
AreWorks server pair least (door ∷ doors) (w ∷ ws) =
    ((w.role ≡ server) × (w.door ≡ door) × HasSeen pair least w.desk)
    × AreWorks server pair least doors ws
AreWorks server pair least doors works = ⊥

-- the works serve some doors
abbrev pub HasWorks : Book → List WorkView → Type 0
HasWorks pair works =
    (server : Role) × (least : ℕ) × (doors : List DoorView)
    × AreWorks server pair least doors works

-- the doors of workers that learnt all of a list that was published, and whether one is worn
pub record Learnt {D C : Type 0} (list : List (Catalogue (List ℕ))) (dones : List (DoorDone D C))
    (doors : List D) (worn : Bool) : Type 0 where
  pub doors_are : doors ≡ map (λ d. d.door) dones
  pub worn_is : worn ≡ list_any (λ d. d.worn) dones
  pub seen : All (λ d. IsPrefix d.desk.seen list) dones
