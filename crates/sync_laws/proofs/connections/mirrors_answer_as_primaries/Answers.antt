use Rattle.sync_laws.proofs.Meeting.{role_alike}
use Rattle.sync_laws.proofs.connections.mirrors_answer_as_primaries.Goals as goal

pub returns : goal.returns
returns c = role_alike
