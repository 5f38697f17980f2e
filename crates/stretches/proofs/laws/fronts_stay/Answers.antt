use Rattle.stretches.proofs.AnswerLemmas.{ready_stays, whole_stays}
use Rattle.stretches.proofs.laws.fronts_stay.Goals as goal

pub returns-clause-whole : goal.returns-clause-whole
returns-clause-whole c = whole_stays

pub returns-clause-ready : goal.returns-clause-ready
returns-clause-ready c = ready_stays c.searches.ensures.some c.searches.ensures.end
