use Rattle.target.proofs.NameLemmas.{asks_by_name}
use Rattle.target.proofs.laws.asks_by_name.Goals as goal

pub returns : goal.returns
returns c = asks_by_name
