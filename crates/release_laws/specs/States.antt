-- The observances of a range, each written out over the states of local time.
use Rattle.std.specs.Prelude.{◌≡◌, ◌≢◌, ◌⊎◌, List, ℤ, pos, ◌-ℤ◌, ◌<ℤ◌}
use Rattle.std.specs.List.{Contains}
use Rattle.td_civil.specs.declared.local_time.Local.{Local}
use Rattle.td_civil.specs.declared.local_time.Observance.{Observance}
use Rattle.zone_meaning.specs.RangeLaws.{AreRisingAfter}

-- its onset is the moment, and what it says of local time from there on is the state at that moment
pub record IsOfState (state : ℤ → Local) (moment : ℤ) (o : Observance) : Type 0 where
  pub onset : o.onset.seconds ≡ moment
  pub to : o.to ≡ (state moment).offset
  pub dst : o.dst ≡ (state moment).dst
  pub name : o.name ≡ (state moment).name

-- the first of a range that begins there: the offset before it is that of the same state
pub record IsFirstOf (state : ℤ → Local) (moment : ℤ) (o : Observance) : Type 0 where
  pub of_state : IsOfState state moment o
  pub from : o.from ≡ (state moment).offset

-- a change there: the state a second before is another, and its offset is the one before the change
pub record IsChangeOf (state : ℤ → Local) (moment : ℤ) (o : Observance) : Type 0 where
  pub of_state : IsOfState state moment o
  pub from : o.from ≡ (state (moment -ℤ pos 1)).offset
  pub changes : state moment ≢ state (moment -ℤ pos 1)

-- a change at some moment between a and b
pub record IsChangeWithin (state : ℤ → Local) (a b : ℤ) (o : Observance) : Type 0 where
  pub moment : ℤ
  pub after : a <ℤ moment
  pub before : moment <ℤ b
  pub change : IsChangeOf state moment o

-- the list has the first of the range from a to before b and each change after it, and nothing
-- else, by rising onsets
pub record AreOfStates (state : ℤ → Local) (a b : ℤ) (list : List Observance) : Type 0 where
  pub rising : AreRisingAfter (a -ℤ pos 1) list
  pub first : (o : Observance) × Contains list o × IsFirstOf state a o
  pub each : (o : Observance) → Contains list o → IsFirstOf state a o ⊎ IsChangeWithin state a b o
  pub every : (t : ℤ) → a <ℤ t → t <ℤ b → state t ≢ state (t -ℤ pos 1)
      → (o : Observance) × Contains list o × IsChangeOf state t o
