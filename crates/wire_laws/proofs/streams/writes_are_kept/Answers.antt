use Rattle.wire_laws.proofs.Chains.{taken}
use Rattle.wire_laws.proofs.streams.writes_are_kept.Goals as goal

pub returns : goal.returns
returns c = taken
