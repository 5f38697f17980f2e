use Rattle.td_civil.proofs.lemmas.Shown.{one_text_lem}
use Rattle.td_civil.proofs.laws.one_text.Goals as goal

pub returns : goal.returns
returns c = one_text_lem
