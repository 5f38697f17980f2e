use Rattle.stretches.proofs.CallLemmas.{cut, kept}
use Rattle.stretches.proofs.laws.loses_nothing.Goals as goal

pub returns-clause-kept : goal.returns-clause-kept
returns-clause-kept c = kept

pub returns-clause-fronts : goal.returns-clause-fronts
returns-clause-fronts c = cut
