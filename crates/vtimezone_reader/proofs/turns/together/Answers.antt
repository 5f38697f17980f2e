use Rattle.vtimezone_reader.proofs.TurnWalk.{at_first, at_next, together_early, together_all}
use Rattle.vtimezone_reader.proofs.turns.together.Goals as goal

pub turns-init : goal.turns-init
turns-init c = at_first c.args.turns.now c.args.from c.nth-first.result c.requires c.nth-first.ensures

pub turns-preserved : goal.turns-preserved
turns-preserved c =
    at_next c.args.turns.now c.args.from c.turns.to c.turns.part c.later_part-part.result c.nth-first.result c.nth-turn.result c.turns.invariant
    c.turns-test.true
    c.nth-turn.ensures c.if-not-is_at.ensures c.later_part-part.ensures

pub returns-then-not-is_at-clause-turns : goal.returns-then-not-is_at-clause-turns
returns-then-not-is_at-clause-turns c =
    together_early c.args.turns.now c.args.from c.turns.to c.turns.part c.nth-first.result c.nth-turn.result c.requires c.nth-first.ensures c.turns.invariant
    c.nth-turn.ensures c.if-not-is_at.ensures

pub returns-clause-turns : goal.returns-clause-turns
returns-clause-turns c =
    together_all c.args.turns.now c.args.from c.turns.to c.turns.part c.nth-first.result c.requires c.nth-first.ensures c.turns.invariant c.turns-test.false
