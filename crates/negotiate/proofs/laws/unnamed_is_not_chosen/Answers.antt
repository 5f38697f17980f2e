use Rattle.negotiate.proofs.lemmas.Unnamed.{json_unnamed}
use Rattle.negotiate.proofs.laws.unnamed_is_not_chosen.Goals as goal

pub returns : goal.returns
returns c = json_unnamed
