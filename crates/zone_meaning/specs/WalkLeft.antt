-- What a walk over a zone's changes has left to hand out.
use Rattle.std.specs.Prelude.{◌≡◌, List, ◌∷◌, ℤ, ◌<ℤ◌, Option, None, Some}
use Rattle.td_civil.specs.declared.local_time.Observance.{Observance}
use Rattle.zone_meaning.specs.declared.walk.Walk.{Walk}
use Rattle.zone_meaning.specs.Observed.{changes_between}
use Rattle.zone_meaning.specs.State.{state_at}
use Rattle.zone_meaning.specs.Walks.{IsWalk, IsStop}

abbrev pub left : Walk → List Observance
left w = changes_between (state_at w.lists w.footer.now) w.at.seconds w.end.seconds

abbrev pub IsSoundWalk : Walk → Type 0
IsSoundWalk w = IsWalk w.lists w.footer.now w.at.seconds w.end.seconds w.begun w.state w.ahead

abbrev pub StopsAt : Walk → ℤ → Type 0
StopsAt w m = IsStop w.lists w.footer.now w.at.seconds w.end.seconds w.begun m

-- a walk that has come further over the same zone, to the same end
pub record IsFurther (old new : Walk) : Type 0 where
  pub lists : new.lists ≡ old.lists
  pub footer : new.footer.now ≡ old.footer.now
  pub end : new.end ≡ old.end
  pub later : old.at.seconds <ℤ new.at.seconds

-- one observance comes before the rest, or none does
abbrev pub HandsOut : List Observance → Option Observance → List Observance → Type 0
HandsOut old None new = old ≡ new
HandsOut old (Some o) new = old ≡ o ∷ new

-- an observance, if there is one, and a list after it
abbrev pub with_first_if_any : Option Observance → List Observance → List Observance
with_first_if_any None rest = rest
with_first_if_any (Some o) rest = o ∷ rest
