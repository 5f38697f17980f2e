use Rattle.std.proofs.Common.{◌≡◌, arith, pos, true, ◌<ℤ◌, int_lt, to_z-of_z}
use Rattle.jiff_core.proofs.SignedLemmas.{signed_arith}
use Rattle.vtimezone.proofs.CarriedPair.{pair_found, lt_true}
use Rattle.vtimezone.proofs.rule_parts.push_rule.Goals as goal

pub push_both-requires-clause-start : goal.push_both-requires-clause-start
push_both-requires-clause-start c =
    (pair_found c.args.footer.now c.args.rule.now c.in-Ok-Pair.field-0 c.in-Ok-Pair.field-0-0 c.in-Ok-Pair.field-0-1
    c.in-Ok-Pair.start c.in-Ok-Pair.end c.requires.rule c.in-Ok-Pair.ensures.value c.in-Ok-Pair.field-0-is).1

pub push_both-requires-clause-end : goal.push_both-requires-clause-end
push_both-requires-clause-end c =
    (pair_found c.args.footer.now c.args.rule.now c.in-Ok-Pair.field-0 c.in-Ok-Pair.field-0-0 c.in-Ok-Pair.field-0-1
    c.in-Ok-Pair.start c.in-Ok-Pair.end c.requires.rule c.in-Ok-Pair.ensures.value c.in-Ok-Pair.field-0-is).2

pub returns-in-Ok-Pair : goal.returns-in-Ok-Pair
returns-in-Ok-Pair c =
    let yearly = (pair_found c.args.footer.now c.args.rule.now c.in-Ok-Pair.field-0 c.in-Ok-Pair.field-0-0 c.in-Ok-Pair.field-0-1
    c.in-Ok-Pair.start c.in-Ok-Pair.end c.requires.rule c.in-Ok-Pair.ensures.value c.in-Ok-Pair.field-0-is).0 in
    let below : c.args.year <ℤ pos 9999 = omega (arith, signed_arith, c.if-year-gt9998.false) in
    let less : int_lt c.args.year (pos 9999) ≡ true = lt_true c.args.year (pos 9999) below in
    rw (yearly, less) (simp (to_z-of_z c.ranges.year) at c.push_both.ensures)
