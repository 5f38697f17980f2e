use Rattle.sync_laws.proofs.Lengths.{has_length}
use Rattle.sync_laws.proofs.exchanges.responses_end_by_their_length.Goals as goal

pub returns : goal.returns
returns c = has_length
