use Rattle.zone_meaning.proofs.RangeMeaning.{some_last, last_tells}
use Rattle.zone_meaning.proofs.laws.last_observance_tells_the_state.Goals as goal

pub returns-clause-some : goal.returns-clause-some
returns-clause-some c = some_last

pub returns-clause-tells : goal.returns-clause-tells
returns-clause-tells c = last_tells
