use Rattle.std.proofs.Common.{refl}
use Rattle.mirror_world.proofs.Passing.{passes}
use Rattle.mirror_world.proofs.laws.held_releases_pass.Goals as goal

pub returns-clause-follows : goal.returns-clause-follows
returns-clause-follows c = λ G s files before history some holds has may. passes G history s files has before holds may some

pub returns-clause-first : goal.returns-clause-first
returns-clause-first c = λ s. record { stamp = refl; kept = refl; room = refl }
