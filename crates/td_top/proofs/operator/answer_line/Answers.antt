use Rattle.std.proofs.Common.{refl, rules}
use Rattle.run_ends.specs.Operator.{IsForFeed}
use Rattle.td_top.proofs.LineLemmas.{is_unknown, said_as}
use Rattle.td_top.proofs.operator.answer_line.Goals as goal

pub returns-in-None-clause-answers : goal.returns-in-None-clause-answers
returns-in-None-clause-answers g c =
    let left = c.in-None.ensures.left refl in
    let others : IsForFeed c.args.line.now = search rules in
    rw (left.0, left.1) (said_as _ _ _ _ _ _ _ c.brief.ensures (is_unknown _ _ c.args.line.now others (c.in-None.ensures.other refl)))
