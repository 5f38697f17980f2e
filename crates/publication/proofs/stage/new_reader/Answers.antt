use Rattle.std.proofs.Common.{ap}
use Rattle.publication.proofs.StepLemmas.{admits, forks, takes_over}
use Rattle.publication.proofs.stage.new_reader.Goals as goal

pub reader-requires : goal.reader-requires
reader-requires g c = admits _ _ _

pub tell-requires : goal.tell-requires
tell-requires g c = forks _ _ _ _ _ c.requires

pub learn-requires-clause-rule : goal.learn-requires-clause-rule
learn-requires-clause-rule g c = takes_over _ _ _ _ _ _ _ (ap (λ v. v.role) c.tell.ensures.given.1)
