use Rattle.stretches.proofs.QueueLemmas.{passed_over}
use Rattle.stretches.proofs.laws.none_starves.Goals as goal

pub returns : goal.returns
returns c = passed_over
