use Rattle.std.proofs.Common.{◌≡◌, refl, rules}
use Rattle.http_answer.specs.Replies.{fixed, status_line, phrase}
use Rattle.http_answer.proofs.closing.fixed.Goals as goal

pub returns-in-400 : goal.returns-in-400
unfolding fixed status_line phrase
returns-in-400 c = rw c.in-400.is refl

pub returns-in-405 : goal.returns-in-405
unfolding fixed status_line phrase
returns-in-405 c = rw c.in-405.is refl

pub returns-in-431 : goal.returns-in-431
unfolding fixed status_line phrase
returns-in-431 c = rw c.in-431.is refl

pub returns-in_default : goal.returns-in_default
unfolding fixed status_line phrase
returns-in_default c = let last : c.args.status ≡ 503 = search rules in rw last refl
