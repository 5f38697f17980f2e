use Rattle.connection.proofs.ClosingLemmas.{one_closing_lem}
use Rattle.connection.proofs.laws.one_closing.Goals as goal

pub returns : goal.returns
returns c = one_closing_lem
