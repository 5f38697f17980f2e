use Rattle.zone_meaning.specs.Sound.{IsSound}
use Rattle.mirror_world.proofs.Stating.{contents_held}
use Rattle.mirror_world.proofs.laws.contents_are_held.Goals as goal

pub returns : goal.returns
returns c = λ G s history some. contents_held IsSound G history s
