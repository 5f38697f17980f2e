-- What the list of a range's observances is, said of its members, and what it says of each moment.
use Rattle.std.specs.Prelude.{◌≡◌, ◌≢◌, ◌⊎◌, List, [], ◌∷◌, ℤ, pos, ◌-ℤ◌, ◌≤ℤ◌, ◌<ℤ◌}
use Rattle.std.specs.List.{Contains}
use Rattle.td_civil.specs.declared.local_time.Local.{Local}
use Rattle.td_civil.specs.declared.local_time.Observance.{Observance}
use Rattle.zone_meaning.specs.Observed.{change_at, first_at}

-- the onsets come after t, each after the one before it
abbrev pub AreRisingAfter : ℤ → List Observance → Type 0
AreRisingAfter t [] = Unit {0}
AreRisingAfter t (o ∷ os) = (t <ℤ o.onset.seconds) × AreRisingAfter o.onset.seconds os

-- the change of the state at a moment between a and b
pub record IsChangeBetween (state : ℤ → Local) (a b : ℤ) (o : Observance) : Type 0 where
  pub moment : ℤ
  pub after : a <ℤ moment
  pub before : moment <ℤ b
  pub changes : state moment ≢ state (moment -ℤ pos 1)
  pub change_is : o ≡ change_at state moment

-- the first observance of a range and, in rising order, each change after it and before the end
pub record AreObserved (state : ℤ → Local) (a b : ℤ) (list : List Observance) : Type 0 where
  pub rising : AreRisingAfter (a -ℤ pos 1) list
  pub first : Contains list (first_at state a)
  pub each : (o : Observance) → Contains list o
      → (o ≡ first_at state a) ⊎ IsChangeBetween state a b o
  pub every : (t : ℤ) → a <ℤ t → t <ℤ b → state t ≢ state (t -ℤ pos 1)
      → Contains list (change_at state t)

-- the last observance of a list that is not after t
pub record IsLastBy (list : List Observance) (t : ℤ) (o : Observance) : Type 0 where
  pub there : Contains list o
  pub begun : o.onset.seconds ≤ℤ t
  pub last : (other : Observance) → Contains list other → other.onset.seconds ≤ℤ t
      → other.onset.seconds ≤ℤ o.onset.seconds

-- the state that an observance tells of
abbrev pub state_told : Observance → Local
state_told o = record { offset = o.to; dst = o.dst; name = o.name }
