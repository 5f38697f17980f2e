use Rattle.mirror.proofs.lemmas.Meanings.{one_meaning}
use Rattle.mirror.proofs.laws.one_meaning.Goals as goal

pub returns : goal.returns
returns c = one_meaning
