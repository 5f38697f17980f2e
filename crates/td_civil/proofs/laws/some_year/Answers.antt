use Rattle.td_civil.proofs.lemmas.Years.{some_year_lem}
use Rattle.td_civil.proofs.laws.some_year.Goals as goal

pub returns : goal.returns
returns c = some_year_lem
