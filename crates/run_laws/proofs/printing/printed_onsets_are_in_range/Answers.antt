use Rattle.run_laws.proofs.Within.{prints_within}
use Rattle.run_laws.proofs.printing.printed_onsets_are_in_range.Goals as goal

pub returns : goal.returns
returns c = prints_within
