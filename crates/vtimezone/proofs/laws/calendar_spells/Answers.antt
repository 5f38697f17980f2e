use Rattle.vtimezone.proofs.CalendarBack.{calendar_back}
use Rattle.vtimezone.proofs.laws.calendar_spells.Goals as goal

pub returns : goal.returns
returns c = calendar_back
