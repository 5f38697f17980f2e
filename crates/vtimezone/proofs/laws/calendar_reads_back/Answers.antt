use Rattle.vtimezone.proofs.ReadBack.{calendar_read_back}
use Rattle.vtimezone.proofs.laws.calendar_reads_back.Goals as goal

pub returns : goal.returns
returns c = calendar_read_back
