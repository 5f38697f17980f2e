use Rattle.td_top.proofs.LineLemmas.{is_quit, said_as}
use Rattle.td_top.proofs.operator.bye.Goals as goal

pub returns : goal.returns
returns c = λ feed session asked same. rw same (said_as _ _ _ _ _ _ _ c.brief.ensures (is_quit feed session))
