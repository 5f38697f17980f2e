use Rattle.std.proofs.Common.{rules, ℤ, to_z, of_z, to_z-of_z, w32, w64, FitsSigned}
use Rattle.posix_footer.specs.declared.rule_types.Edge.{Edge}
use Rattle.posix_footer.specs.declared.rule_types.Edge.TheVariants as edge
use Rattle.posix_footer.specs.declared.rule_types.DstRule.{DstRule}
use Rattle.posix_footer.specs.StateAt.{IsLatest}
use Rattle.posix_footer.proofs.DaylightLemmas.{daylight_is, last_change_is}
use Rattle.posix_footer.proofs.state_at.is_daylight.Goals as goal

-- the greatest onset at the offset that was passed
passed : (rule : DstRule) (std t m : ℤ) (at : Edge) → FitsSigned w32 std → IsLatest rule (to_z w32 (of_z w32 std)) at t m → IsLatest rule std at t m
passed rule std t m at fits is = rw (to_z-of_z fits) at is

pub returns-clause-value : goal.returns-clause-value
returns-clause-value c =
    let fits_started : FitsSigned w64 c.latest-started.result = search rules in
    let fits_ended : FitsSigned w64 c.latest-ended.result = search rules in
    let started = passed c.args.rule.now c.args.std c.args.t.seconds c.latest-started.result edge.Start c.ranges.std c.latest-started.ensures in
    let ended = passed c.args.rule.now c.args.std c.args.t.seconds c.latest-ended.result edge.End c.ranges.std c.latest-ended.ensures in
    rw (to_z-of_z fits_started, to_z-of_z fits_ended)
    (daylight_is c.args.rule.now c.args.std c.args.t.seconds c.latest-started.result c.latest-ended.result started ended)

pub returns-clause-change : goal.returns-clause-change
returns-clause-change c =
    let fits_started : FitsSigned w64 c.latest-started.result = search rules in
    let fits_ended : FitsSigned w64 c.latest-ended.result = search rules in
    let started = passed c.args.rule.now c.args.std c.args.t.seconds c.latest-started.result edge.Start c.ranges.std c.latest-started.ensures in
    let ended = passed c.args.rule.now c.args.std c.args.t.seconds c.latest-ended.result edge.End c.ranges.std c.latest-ended.ensures in
    rw (to_z-of_z fits_started, to_z-of_z fits_ended)
    (last_change_is c.args.rule.now c.args.std c.args.t.seconds c.latest-started.result c.latest-ended.result started ended)
