use Rattle.std.proofs.Common.{refl}
use Rattle.console.proofs.LineLemmas.{prefix}
use Rattle.console.proofs.StepLemmas.{given_all}
use Rattle.console.proofs.laws.goes_on.Goals as goal

pub returns-clause-prefix : goal.returns-clause-prefix
returns-clause-prefix c = prefix

pub returns-clause-start : goal.returns-clause-start
returns-clause-start c = λ more. refl

pub returns-clause-given : goal.returns-clause-given
returns-clause-given c = given_all
