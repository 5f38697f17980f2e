use Rattle.mirror_world.proofs.Hearing.{data_means}
use Rattle.mirror_world.proofs.laws.data_is_meant_in_bytes.Goals as goal

pub returns : goal.returns
returns c = data_means
