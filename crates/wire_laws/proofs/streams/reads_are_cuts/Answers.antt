use Rattle.wire_laws.proofs.Chains.{given}
use Rattle.wire_laws.proofs.streams.reads_are_cuts.Goals as goal

pub returns : goal.returns
returns c = given
