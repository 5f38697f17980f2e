-- Which part of a VTIMEZONE is in force at a moment (RFC 5545, section 3.6.5).
use Rattle.std.specs.Prelude.{◌≡◌, ◌⊎◌, List, ◌∷◌, ℤ, ◌≤ℤ◌, ◌<ℤ◌, Option, None, Some, ⊤}
use Rattle.std.specs.List.{Contains}
use Rattle.td_civil.specs.declared.moment_type.Moment.{Moment}
use Rattle.td_civil.specs.declared.local_time.Local.{Local}
use Rattle.recurrence.specs.declared.rule_types.Rule.{Rule}
use Rattle.recurrence.specs.declared.part_types.Part.{Part}
use Rattle.recurrence.specs.Falls.{Falls}
use Rattle.recurrence.specs.Occurs.{moment_of}

-- the state after a part's onsets
abbrev pub state_of_part : Part → Local
state_of_part p = record { offset = p.to; dst = p.dst; name = p.name }

abbrev pub NotAfter : ℤ → Option Moment → Type 0
NotAfter m None = ⊤
NotAfter m (Some until) = m ≤ℤ until.seconds

-- a moment at which the rule falls, from the part's start to its end, by clocks of the offset
-- before it
pub record IsRuleOnset (rule : Rule) (p : Part) (m : ℤ) : Type 0 where
  pub day : ℤ
  pub falls : Falls rule.form day
  pub moment_is : m ≡ moment_of rule p.from day
  pub from_start : p.start.seconds ≤ℤ m
  pub not_after : NotAfter m p.until

-- one of the moments that the part lists: its start and its dates
abbrev pub IsListed : Part → ℤ → Type 0
IsListed p m = Contains (p.start ∷ p.dates) (record { seconds = m })

-- without a rule these are its onsets
abbrev pub IsOnsetUnder : Option Rule → Part → ℤ → Type 0
IsOnsetUnder None p m = IsListed p m
IsOnsetUnder (Some rule) p m = IsRuleOnset rule p m

abbrev pub IsOnset : Part → ℤ → Type 0
IsOnset p m = IsOnsetUnder p.rule p m

-- of all parts, this one has the greatest onset that is not after t, and no other one has that
-- onset
pub record IsInForce (In : Part → Type 0) (t : ℤ) (p : Part) : Type 0 where
  pub there : In p
  pub onset : ℤ
  pub is : IsOnset p onset
  pub begun : onset ≤ℤ t
  pub greatest : (other : Part) (m : ℤ) → In other → IsOnset other m → m ≤ℤ t
      → (m <ℤ onset) ⊎ ((m ≡ onset) × (other ≡ p))

-- the part in force among those of a list gives the state
abbrev pub GivesState : List Part → ℤ → Local → Type 0
GivesState parts t state = (p : Part) × (IsInForce (Contains parts) t p × (state_of_part p ≡ state))
