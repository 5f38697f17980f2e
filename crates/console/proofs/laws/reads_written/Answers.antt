use Rattle.console.proofs.LineLemmas.{written}
use Rattle.console.proofs.laws.reads_written.Goals as goal

pub returns : goal.returns
returns c = written
