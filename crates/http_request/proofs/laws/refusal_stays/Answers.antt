use Rattle.http_request.proofs.lemmas.StepLemmas as steps
use Rattle.http_request.proofs.laws.refusal_stays.Goals as goal

pub returns : goal.returns
returns c = steps.refusal_stays
