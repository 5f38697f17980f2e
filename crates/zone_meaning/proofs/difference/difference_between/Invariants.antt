use Rattle.std.proofs.Common.{length, Option}
use Rattle.td_civil.specs.declared.moment_type.Moment.{Moment}
use Rattle.zone_meaning.specs.Difference.{IsFirstDifference}
use Rattle.zone_meaning.specs.State.{zone_state}
use Rattle.zone_meaning.proofs.Differing.{IsApart}
use Rattle.zone_meaning.proofs.difference.difference_between.Given as goal

-- where what is left of the two lists parts, they first differ
abbrev pub invariant-loop-change : goal.invariant-loop-change
invariant-loop-change l =
    (r : Option Moment) → IsApart l.of_one l.of_two r
    → IsFirstDifference (zone_state l.fn.one) (zone_state l.fn.two) l.fn.from.seconds l.fn.end.seconds r

abbrev pub decreases-loop-change : goal.decreases-loop-change
decreases-loop-change l = length l.of_one
