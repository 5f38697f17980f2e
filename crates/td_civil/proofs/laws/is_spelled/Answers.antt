use Rattle.td_civil.proofs.lemmas.Spelled.{found_spells, spells_found}
use Rattle.td_civil.proofs.laws.is_spelled.Goals as goal

pub returns : goal.returns
returns c text m = (found_spells text m, spells_found text m)
