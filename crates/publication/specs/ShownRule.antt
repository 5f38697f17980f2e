-- The rule of what is shown: which values the publisher and each desk know, and what every step
-- tells.
use Rattle.std.specs.Prelude.{◌≡◌, ℕ, ◌+◌, ◌<◌, List, [], length, Option, Some, None}
use mathlib.Core.Option.{some}
use mathlib.Core.List.{IsPrefix}
use lib.ListN.{get_elem?}
use Rattle.logbook.specs.Pages.{Book}
use Rattle.publication.specs.declared.view.Home.{Home}
use Rattle.publication.specs.declared.view.View.{View}
use Rattle.publication.specs.declared.view.SeatRole.{SeatRole}
use Rattle.publication.specs.declared.view.SeatRole.TheVariants.{Spent, Publisher, Desk}

abbrev pub no_home : Home
no_home = record { number = 0; log = 0; cells = 0 }

-- a history as a view names it
abbrev pub home_of : Book → Home
home_of b = record { number = b.number; log = b.log_name; cells = b.cells_name }

-- what a copy shows: the values of a history
abbrev pub told_of : {V : Type 0} → List V → Home → View V
told_of list home = record { role = Spent; list = list; enters = 0; home = home }

module _ {V : Type 0} where
  abbrev pub spent : View V
  spent = record { role = Spent; list = []; enters = 0; home = no_home }

  -- What a seat knows fits the published list: the publisher, of whom there is one, has this list,
  -- and a desk has a beginning of it that is not empty.
  abbrev pub FitsAs : SeatRole → List V → Home → ℕ → ℕ → View V → Type 0
  FitsAs Spent list home publisher seat v = Unit {0}
  FitsAs Publisher list home publisher seat v =
      (seat ≡ publisher) × (v.list ≡ list) × (v.home ≡ home) × (0 < length list)
  FitsAs Desk list home publisher seat v =
      (0 < length v.list) × IsPrefix v.list list × (v.home ≡ home)

  abbrev pub opened : Home → List V → View V
  opened home list = record { role = Publisher; list = list; enters = 0; home = home }

  -- what the publisher tells
  abbrev pub told : View V → View V
  told v = record { role = Desk; list = v.list; enters = 0; home = v.home }

  -- a new desk takes over what was told
  abbrev pub taken_over : View V → View V → View V
  taken_over v n = record { role = Desk; list = n.list; enters = 0; home = n.home }

  -- a desk has entered this list: that is one enter more
  abbrev pub entered_view : View V → List V → View V
  entered_view v list = record { role = Desk; list = list; enters = v.enters + 1; home = v.home }

-- of what is shown: the values up to it, and which history that is
module _ {X V : Type 0} (log : X → List V) (book : X → Home) where
  abbrev pub logged : Option X → List V
  logged (Some e) = log e
  logged None = []

  abbrev pub homed : Home → Option X → Home
  homed home (Some e) = book e
  homed home None = home

-- content: what a copy shows, if anything
module _ {T X V : Type 0} (content : T → Option X) (log : X → List V) (book : X → Home) where
  -- the published list is that of what is shown, and every seat fits it
  pub record ShownHolds (x : T) (views : List (View V)) : Type 0 where
    pub list : List V
    pub home : Home
    pub publisher : ℕ
    pub shown : logged log book (content x) ≡ list
    pub shown_home : homed log book home (content x) ≡ home
    pub fits : (seat : ℕ) (v : View V) → get_elem? views seat ≡ some v
        → FitsAs v.role list home publisher seat v

  -- a first value is shown
  abbrev pub OpensView : View V → T → T → View V → Type 0
  OpensView v x y w = (e : X) × (content y ≡ Some e) × (w ≡ opened (book e) (log e))

  -- one more is shown
  abbrev pub Publishes : View V → T → T → View V → Type 0
  Publishes v x y w = (e : X) × (content y ≡ Some e) × (w ≡ record v { list = log e })

  -- a desk enters: what is shown has a history that begins with what the desk knew
  abbrev pub Enters : View V → T → T → View V → Type 0
  Enters v x y w = (e : X) × (content y ≡ Some e) × (w ≡ entered_view v (log e))
      × IsPrefix v.list (log e) × (book e ≡ v.home)
