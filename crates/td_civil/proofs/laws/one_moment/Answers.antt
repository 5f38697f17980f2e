use Rattle.td_civil.proofs.lemmas.Shown.{one_moment_lem}
use Rattle.td_civil.proofs.laws.one_moment.Goals as goal

pub returns : goal.returns
returns c = one_moment_lem
