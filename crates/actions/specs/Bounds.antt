-- The range of time that a request asks for (RFC 7808, sections 5.3 and 5.4), by its bounds.
use Rattle.std.specs.Prelude.{ℤ, Option, Some, None, option_map, Result, Ok, Err}
use Rattle.td_civil.specs.Bounds.{HasMeaning}
use Rattle.td_civil.specs.declared.moment_type.Moment.{Moment}
use Rattle.td_civil.specs.declared.moment_type.TheConstants.{LO, HI}
use Rattle.target.specs.declared.asked_types.Param.{Param}
use Rattle.target.specs.declared.asked_types.Param.TheVariants as param
use Rattle.json_forms.specs.declared.problem_type.Problem.{Problem}
use Rattle.json_forms.specs.declared.problem_type.Problem.TheVariants as problem
use Rattle.recurrence.specs.declared.part_types.Range.{Range}
use Rattle.vtimezone.specs.Ranges.{IsEndOf, seconds_if_any}
use Rattle.actions.specs.declared.bounds.Bound.{Bound}
use Rattle.actions.specs.declared.bounds.Bound.TheVariants.{Open, At}
use Rattle.actions.specs.declared.bounds.Bounds.{Bounds}
use Rattle.actions.specs.declared.bounds.BoundRule.{BoundRule}
use Rattle.actions.specs.declared.bounds.BoundRule.TheVariants as rule
use Rattle.actions.specs.Moments.{start_of, end_of}

-- a bound that is not given is open, unless it has to be given
abbrev pub bound_absent : BoundRule → Option Bound
bound_absent rule.Required = None
bound_absent rule.Optional = Some Open
bound_absent rule.Refused = Some Open

-- one that is given is its moment, if it has one, unless none may be given
abbrev pub bound_present : BoundRule → Option ℤ → Option Bound
bound_present rule.Required moment = option_map (λ m. At (record { seconds = m })) moment
bound_present rule.Optional moment = option_map (λ m. At (record { seconds = m })) moment
bound_present rule.Refused moment = None

-- the bound by a parameter, and by the moment that this gives
abbrev pub bound_by : BoundRule → Param → Option ℤ → Option Bound
bound_by rule param.Absent moment = bound_absent rule
bound_by rule (param.Once text) moment = bound_present rule moment
bound_by rule param.Repeated moment = bound_present rule moment

-- where a range begins: where meaning does, if its start is open
abbrev pub begin_of : Bound → Moment
begin_of Open = record { seconds = LO }
begin_of (At m) = m

-- where it ends, if its end is not open
abbrev pub end_if_any : Bound → Option Moment
end_if_any Open = None
end_if_any (At m) = Some m

-- where it ends: where meaning does, if its end is open
abbrev pub finish_of : Bound → Moment
finish_of Open = record { seconds = HI }
finish_of (At m) = m

-- the start of a range, and the end of one with this start: none where it is refused
unfoldable pub start_bound : BoundRule → Param → Option Bound
start_bound rule p = bound_by rule p (start_of p)

unfoldable pub end_bound : BoundRule → Bound → Param → Option Bound
end_bound rule start p = bound_by rule p (end_of (begin_of start).seconds p)

abbrev pub with_end : Bound → Option Bound → Result Bounds Problem
with_end start (Some end) = Ok (record { start = start; end = end })
with_end start None = Err problem.InvalidEnd

abbrev pub with_start : BoundRule → Option Bound → Param → Result Bounds Problem
with_start rule (Some start) end = with_end start (end_bound rule start end)
with_start rule None end = Err problem.InvalidStart

-- both bounds, of which the start is refused before the end
unfoldable pub bounds_in : BoundRule → Param → Param → Result Bounds Problem
bounds_in rule start end = with_start rule (start_bound rule start) end

-- a range begins at a moment that has a meaning, and ends after it
pub record AreBounds (b : Bounds) : Type 0 where
  pub start : HasMeaning (begin_of b.start).seconds
  pub end : IsEndOf (begin_of b.start).seconds (seconds_if_any (end_if_any b.end))

abbrev pub range_between : Bounds → Range
range_between b = record { from = begin_of b.start; until = end_if_any b.end }
