use Rattle.td_base.proofs.PrefixLemmas.{prefix_read}
use Rattle.td_base.proofs.laws.reads_a_prefix.Goals as goal

pub returns : goal.returns
returns c = prefix_read
