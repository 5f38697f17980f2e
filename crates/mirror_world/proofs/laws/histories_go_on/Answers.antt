use Rattle.mirror_world.proofs.Held.{go_on}
use Rattle.mirror_world.proofs.laws.histories_go_on.Goals as goal

pub returns : goal.returns
returns c = go_on
