use Rattle.std.proofs.Common.{map}
use Rattle.admission.proofs.Ordered.{SameLeft}
use Rattle.admission.proofs.differing.are_texts.Given as goal

abbrev pub invariant-loop-at : goal.invariant-loop-at
invariant-loop-at l = SameLeft (map (λ a. a.now) l.borrowed) l.texts l.at
