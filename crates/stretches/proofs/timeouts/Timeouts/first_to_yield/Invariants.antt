use Rattle.stretches.specs.Timeouts.{FirstAmong}
use Rattle.stretches.proofs.timeouts.Timeouts.first_to_yield.Given as goal

abbrev pub invariant-loop-key : goal.invariant-loop-key
invariant-loop-key l = FirstAmong l.self l.key l.now l.found
