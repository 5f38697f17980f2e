-- What an enter, and the making of a desk, leave of a seat's view.
use Rattle.std.specs.Prelude.{◌≡◌, List}
use mathlib.Core.List.{IsPrefix}
use Rattle.publication.specs.declared.view.Home.{Home}
use Rattle.publication.specs.declared.view.View.{View}
use Rattle.publication.specs.declared.view.SeatRole.TheVariants.{Desk}
use Rattle.publication.specs.ShownRule.{entered_view}

-- the view after an enter that found this list
abbrev pub HasEntered : {V : Type 0} → View V → Home → List V → View V → Type 0
HasEntered v home list w = (w ≡ entered_view v list) × IsPrefix v.list list × (home ≡ v.home)

-- a new desk's view has what the publisher's has
abbrev pub IsNewReader : {V : Type 0} → View V → View V → Type 0
IsNewReader v w = (w.role ≡ Desk) × (w.list ≡ v.list) × (w.home ≡ v.home) × (w.enters ≡ 0)
