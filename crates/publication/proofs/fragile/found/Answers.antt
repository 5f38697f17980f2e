use Rattle.publication.proofs.StepLemmas.{enters}
use Rattle.publication.proofs.fragile.found.Goals as goal

pub enter_as-requires : goal.enter_as-requires
enter_as-requires g c = enters _ _ _ _ _ c.requires
