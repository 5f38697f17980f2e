use Rattle.zone_meaning.specs.Sound.{IsSound}
use Rattle.mirror_world.proofs.Stating.{release_held}
use Rattle.mirror_world.proofs.laws.releases_are_held.Goals as goal

pub returns : goal.returns
returns c = λ G s files before r history some holds has. release_held IsSound G history s files has before r holds
