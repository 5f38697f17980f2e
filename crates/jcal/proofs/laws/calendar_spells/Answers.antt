use Rattle.jcal.proofs.SpellsBack.{calendar_back}
use Rattle.jcal.proofs.laws.calendar_spells.Goals as goal

pub returns : goal.returns
returns c = λ tzid alias_of parts until id also within some all. calendar_back tzid alias_of parts until within some all
