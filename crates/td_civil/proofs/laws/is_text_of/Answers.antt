use Rattle.td_civil.proofs.lemmas.Shown.{is_text_of_lem}
use Rattle.td_civil.proofs.laws.is_text_of.Goals as goal

pub returns : goal.returns
returns c = is_text_of_lem
