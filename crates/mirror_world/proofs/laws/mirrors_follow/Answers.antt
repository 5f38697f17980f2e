use Rattle.mirror_world.proofs.Held.{follows}
use Rattle.mirror_world.proofs.laws.mirrors_follow.Goals as goal

pub returns : goal.returns
returns c = follows c.mirrors_hold_releases.ensures
