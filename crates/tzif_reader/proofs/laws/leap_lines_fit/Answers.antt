use Rattle.tzif_reader.proofs.LeapLines.{few_leap_lines}
use Rattle.tzif_reader.proofs.laws.leap_lines_fit.Goals as goal

pub returns : goal.returns
returns c = few_leap_lines
