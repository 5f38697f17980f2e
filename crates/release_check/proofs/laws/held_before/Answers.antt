use Rattle.release_check.proofs.Histories.{held_is}
use Rattle.release_check.proofs.laws.held_before.Goals as goal

pub returns : goal.returns
returns c = held_is
