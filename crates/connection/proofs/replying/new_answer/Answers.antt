use Rattle.connection.proofs.KeepingLemmas as keeping
use Rattle.connection.proofs.replying.new_answer.Goals as goal

pub returns-clause-is : goal.returns-clause-is
returns-clause-is c = keeping.ready_if _ _ _ _ _ c.in_ok-answer.ensures.is c.new.ensures
