use Rattle.connection.proofs.ServedLemmas.{needed_none}
use Rattle.connection.proofs.laws.nothing_needed.Goals as goal

pub returns : goal.returns
returns c = needed_none
