-- The bounds that a request gives are those of a range.
use Rattle.std.proofs.Common.{◌≡◌, Option, None, Some, IfSome, subst, sym, arith}
use Rattle.std.specs.Prelude.{ℤ, ◌≤ℤ◌, ◌<ℤ◌}
use Rattle.std.proofs.lemmas.Int.{ints}
use Rattle.td_civil.specs.Bounds.{HasMeaning}
use Rattle.td_civil.specs.declared.moment_type.Moment.{Moment}
use Rattle.td_civil.specs.declared.moment_type.TheConstants.{LO, HI}
use Rattle.vtimezone.specs.Ranges.{IsEndOf, seconds_if_any}
use Rattle.zone_meaning.specs.Observed.{IsRange}
use Rattle.actions.specs.Bounds.{AreBounds, begin_of, bound_absent, bound_present, end_if_any, finish_of}
use Rattle.actions.specs.declared.bounds.Bound.{Bound}
use Rattle.actions.specs.declared.bounds.Bound.TheVariants.{Open, At}
use Rattle.actions.specs.declared.bounds.Bounds.{Bounds}
use Rattle.actions.specs.declared.bounds.BoundRule.{BoundRule}
use Rattle.actions.specs.declared.bounds.BoundRule.TheVariants as rule

abbrev IsStart : Bound → Type 0
IsStart b = HasMeaning (begin_of b).seconds

abbrev IsEnd : ℤ → Bound → Type 0
IsEnd a b = IsEndOf a (seconds_if_any (end_if_any b))

open_start : IsStart Open
open_start = (omega (arith, ints), omega (arith, ints))

starts_absent : (r : BoundRule) → IfSome (bound_absent r) IsStart
starts_absent rule.Required = tt
starts_absent rule.Optional = open_start
starts_absent rule.Refused = open_start

starts_present : (r : BoundRule) (o : Option Moment) → IfSome o (λ m. HasMeaning m.seconds) → IfSome (bound_present r (seconds_if_any o)) IsStart
starts_present rule.Required None h = tt
starts_present rule.Required (Some m) h = h
starts_present rule.Optional None h = tt
starts_present rule.Optional (Some m) h = h
starts_present rule.Refused o h = tt

ends_absent : (r : BoundRule) (a : ℤ) → IfSome (bound_absent r) (IsEnd a)
ends_absent rule.Required a = tt
ends_absent rule.Optional a = tt
ends_absent rule.Refused a = tt

ends_present : (r : BoundRule) (a : ℤ) (o : Option Moment) → IfSome o (λ m. (a <ℤ m.seconds) × (m.seconds ≤ℤ HI))
    → IfSome (bound_present r (seconds_if_any o)) (IsEnd a)
ends_present rule.Required a None h = tt
ends_present rule.Required a (Some m) h = h
ends_present rule.Optional a None h = tt
ends_present rule.Optional a (Some m) h = h
ends_present rule.Refused a o h = tt

-- ---- the same of a bound that is known to be one of them

pub absent_start : (b : Option Bound) (r : BoundRule) → b ≡ bound_absent r → IfSome b (λ x. HasMeaning (begin_of x).seconds)
absent_start b r is = subst (λ (o : Option Bound). IfSome o IsStart) (sym is) (starts_absent r)

pub present_start : (b : Option Bound) (r : BoundRule) (o : Option Moment) → b ≡ bound_present r (seconds_if_any o) → IfSome o (λ m. HasMeaning m.seconds)
    → IfSome b (λ x. HasMeaning (begin_of x).seconds)
present_start b r o is h = subst (λ (x : Option Bound). IfSome x IsStart) (sym is) (starts_present r o h)

pub absent_end : (b : Option Bound) (r : BoundRule) (a : ℤ) → b ≡ bound_absent r → IfSome b (λ x. IsEndOf a (seconds_if_any (end_if_any x)))
absent_end b r a is = subst (λ (x : Option Bound). IfSome x (IsEnd a)) (sym is) (ends_absent r a)

pub present_end : (b : Option Bound) (r : BoundRule) (a : ℤ) (o : Option Moment) → b ≡ bound_present r (seconds_if_any o)
    → IfSome o (λ m. (a <ℤ m.seconds) × (m.seconds ≤ℤ HI)) → IfSome b (λ x. IsEndOf a (seconds_if_any (end_if_any x)))
present_end b r a o is h = subst (λ (x : Option Bound). IfSome x (IsEnd a)) (sym is) (ends_present r a o h)

-- ---- a range with an end, which is that of all meaning if it is open

range_by : (a : ℤ) (end : Bound) → HasMeaning a → IsEndOf a (seconds_if_any (end_if_any end)) → IsRange a (finish_of end).seconds
range_by a Open h k = (h.0, h.1, omega (arith, ints))
range_by a (At m) h k = (h.0, k.0, k.1)

pub range_is : (b : Bounds) → AreBounds b → IsRange (begin_of b.start).seconds (finish_of b.end).seconds
range_is b are = range_by (begin_of b.start).seconds b.end are.start are.end
