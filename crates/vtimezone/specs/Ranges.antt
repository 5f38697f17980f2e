-- The ranges for which calendars are made: from a moment a, and to before another, b, where there
-- is one.
use Rattle.std.specs.Prelude.{ℤ, ◌≤ℤ◌, ◌<ℤ◌, Option, None, Some, option_map, ⊤}
use Rattle.td_civil.specs.Bounds.{HasMeaning}
use Rattle.td_civil.specs.declared.moment_type.Moment.{Moment}
use Rattle.td_civil.specs.declared.moment_type.TheConstants.{HI}
use Rattle.recurrence.specs.declared.part_types.Range.{Range}

abbrev pub seconds_if_any : Option Moment → Option ℤ
seconds_if_any moment = option_map (λ m. m.seconds) moment

-- the end of a range
abbrev pub end_in : Range → Option ℤ
end_in range = seconds_if_any range.until

-- the end, if there is one, comes after the start, and not after the moments that have a meaning
abbrev pub IsEndOf : ℤ → Option ℤ → Type 0
IsEndOf a None = ⊤
IsEndOf a (Some b) = (a <ℤ b) × (b ≤ℤ HI)

-- a moment comes before the end, where there is one
abbrev pub IsBeforeEnd : Option ℤ → ℤ → Type 0
IsBeforeEnd None t = ⊤
IsBeforeEnd (Some b) t = t <ℤ b

-- a moment of the range
pub record IsAmong (a : ℤ) (b : Option ℤ) (t : ℤ) : Type 0 where
  pub from : a ≤ℤ t
  pub before : IsBeforeEnd b t
  pub meant : HasMeaning t
