use Rattle.std.proofs.Common.{rules}
use Rattle.installer.proofs.InstallLemmas.{not_asked}
use Rattle.installer.proofs.admitting.judge.Goals as goal

pub returns-then-is_empty-2-clause-allowed : goal.returns-then-is_empty-2-clause-allowed
returns-then-is_empty-2-clause-allowed g c = λ H s. not_asked c.args.rules.now.chosen H _ (c.is_empty.ensures.0 (search rules))
