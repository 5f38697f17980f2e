use Rattle.mirror_world.proofs.Held.{understood_so}
use Rattle.mirror_world.proofs.laws.answers_are_understood.Goals as goal

pub returns : goal.returns
returns c = understood_so c.requests_are_answered.ensures
