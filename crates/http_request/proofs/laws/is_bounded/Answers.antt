use Rattle.http_request.proofs.lemmas.StepLemmas.{taken_some, taken_within}
use Rattle.http_request.proofs.TakingLemmas.{waiting_room}
use Rattle.http_request.proofs.laws.is_bounded.Goals as goal

pub returns-clause-taken : goal.returns-clause-taken
returns-clause-taken c = λ bytes head len s. (taken_some bytes head len s, taken_within bytes head len s)

pub returns-clause-waiting : goal.returns-clause-waiting
returns-clause-waiting c = waiting_room
