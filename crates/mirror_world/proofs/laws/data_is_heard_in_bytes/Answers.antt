use Rattle.mirror_world.proofs.Hearing.{data_heard}
use Rattle.mirror_world.proofs.laws.data_is_heard_in_bytes.Goals as goal

pub returns : goal.returns
returns c = data_heard
