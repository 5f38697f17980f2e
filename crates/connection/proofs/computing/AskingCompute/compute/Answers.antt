use Rattle.connection.proofs.KeepingLemmas as keeping
use Rattle.connection.proofs.computing.AskingCompute.compute.Goals as goal

pub returns-clause-answer : goal.returns-clause-answer
returns-clause-answer c = keeping.right_now_if _ _ _ _ c.answer_over.ensures

pub returns-clause-status : goal.returns-clause-status
returns-clause-status c = keeping.status_if _ _ _ _ c.answer_over.ensures
