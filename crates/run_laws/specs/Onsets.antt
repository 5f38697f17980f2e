-- The onsets of the observances that are printed of a calendar.
use Rattle.std.specs.Prelude.{◌≡◌, ℕ, List, ℤ, ◌≤ℤ◌, ◌<ℤ◌}
use Rattle.std.specs.List.{AllByRecursion, flat_map}
use Rattle.std.specs.Option.{IfSome}
use Rattle.td_civil.specs.declared.local_time.Observance.{Observance}
use Rattle.vtimezone_reader.specs.declared.calendar_type.Calendar.{Calendar}
use Rattle.run_laws.specs.Runs.{observance_line}

-- the onset lies in the range that was asked for, and before the end of the calendar, if it has one
pub record IsOnsetWithin (calendar : Calendar) (start end : ℤ) (o : Observance) : Type 0 where
  pub from : start ≤ℤ o.onset.seconds
  pub before : o.onset.seconds <ℤ end
  pub ends : IfSome calendar.until (λ u. o.onset.seconds <ℤ u.seconds)

-- the lines are those of observances, each with such an onset
pub record PrintsWithin (calendar : Calendar) (start end : ℤ) (lines : List ℕ) : Type 0 where
  pub shown : List Observance
  pub lines_are : lines ≡ flat_map observance_line shown
  pub within : AllByRecursion (IsOnsetWithin calendar start end) shown
