use Rattle.std.proofs.Common.{map}
use Rattle.installer.proofs.Stated.{Agree}
use Rattle.installer.proofs.comparing.are_texts.Given as goal

abbrev pub invariant-loop-at : goal.invariant-loop-at
invariant-loop-at l = Agree (map (λ a. a.now) l.borrowed) l.texts l.at
