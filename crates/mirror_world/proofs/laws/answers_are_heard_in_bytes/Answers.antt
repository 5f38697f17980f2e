use Rattle.mirror_world.proofs.Hearing.{heard_over}
use Rattle.mirror_world.proofs.laws.answers_are_heard_in_bytes.Goals as goal

pub returns : goal.returns
returns c = heard_over
