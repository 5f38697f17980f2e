use Rattle.admission.specs.Rules.{first_refusing, refuses}
use Rattle.admission.proofs.Asked.{SearchLeft}
use Rattle.admission.proofs.asking.ask.Given as goal

abbrev pub invariant-loop-at : goal.invariant-loop-at
invariant-loop-at g l = SearchLeft (refuses l.delta) l.chosen l.at (first_refusing l.chosen l.delta)
