-- Which moments are onsets of a part, and which part is the latest one at a moment.
use Rattle.std.specs.Prelude.{◌≡◌, ◌⊎◌, ℕ, ◌<◌, List, Some, ℤ, ◌≤ℤ◌, true}
use Rattle.std.specs.List.{Contains, slice_get}
use Rattle.td_civil.specs.declared.moment_type.Moment.{Moment}
use Rattle.td_civil.specs.declared.moment_type.TheConstants.{LO}
use Rattle.recurrence.specs.declared.part_types.Part.{Part}
use Rattle.recurrence.specs.declared.rule_types.Rule.{Rule}
use Rattle.recurrence.specs.Occurs.{moment_of}
use Rattle.vtimezone_reader.specs.FallsOn.{falls_on}
use Rattle.vtimezone_reader.specs.Onsets.{day_shown}

-- the rule falls on the day that clocks show, at that moment, from the part's start to its last
-- onset
pub record IsOnsetByRule (p : Part) (rule : Rule) (t : ℤ) : Type 0 where
  pub moment : moment_of rule p.from (day_shown p.from t) ≡ t
  pub falls : falls_on rule.form (day_shown p.from t) ≡ true
  pub begun : p.start.seconds ≤ℤ t
  pub ended : (last : Moment) → p.until ≡ Some last → t ≤ℤ last.seconds

abbrev pub IsOnsetOf : Part → ℤ → Type 0
IsOnsetOf p t =
    (p.start.seconds ≡ t) ⊎ (Contains p.dates (record { seconds = t })
    ⊎ ((rule : Rule) × (p.rule ≡ Some rule) × IsOnsetByRule p rule t))

-- the part at this place has an onset that is not after t; no part has a later one that is not
-- after t, and no part at a later place has the same one
pub record IsLatestOnset (parts : List Part) (t : ℤ) (place : ℕ) (p : Part) (m : ℤ) : Type 0 where
  pub there : slice_get parts place ≡ Some p
  pub onset : IsOnsetOf p m
  pub meant : LO ≤ℤ m
  pub begun : m ≤ℤ t
  pub greatest : (k : ℕ) (other : Part) (v : ℤ) → slice_get parts k ≡ Some other
      → IsOnsetOf other v → v ≤ℤ t → v ≤ℤ m
  pub last : (k : ℕ) (other : Part) → place < k → slice_get parts k ≡ Some other
      → IsOnsetOf other m → ⊥
