use Rattle.td_civil.proofs.lemmas.Years.{years_apart_lem}
use Rattle.td_civil.proofs.laws.years_apart.Goals as goal

pub returns : goal.returns
returns c = years_apart_lem
