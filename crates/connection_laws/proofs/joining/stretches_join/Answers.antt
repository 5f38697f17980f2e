use Rattle.connection_laws.proofs.JoinLemmas.{join}
use Rattle.connection_laws.proofs.joining.stretches_join.Goals as goal

pub returns : goal.returns
returns c = join c.gives.ensures.feed
