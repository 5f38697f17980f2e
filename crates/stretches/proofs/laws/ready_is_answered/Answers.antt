use Rattle.stretches.proofs.AnswerLemmas.{answers, waits}
use Rattle.stretches.proofs.laws.ready_is_answered.Goals as goal

pub returns-clause-waits : goal.returns-clause-waits
returns-clause-waits c = waits c.searches.ensures.some c.searches.ensures.end

pub returns-clause-answers : goal.returns-clause-answers
returns-clause-answers c = answers
