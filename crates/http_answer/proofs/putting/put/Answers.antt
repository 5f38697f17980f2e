use Rattle.http_answer.proofs.Keeping.{keeps_append}
use Rattle.http_answer.proofs.putting.put.Goals as goal

pub returns-clause-kept : goal.returns-clause-kept
returns-clause-kept c = keeps_append _ _ _ _ c.append.ensures.ok c.append.ensures.err
