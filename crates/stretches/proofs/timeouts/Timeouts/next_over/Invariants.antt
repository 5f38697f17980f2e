use Rattle.stretches.specs.Timeouts.{NoneOver}
use Rattle.stretches.proofs.timeouts.Timeouts.next_over.Given as goal

abbrev pub invariant-loop-key : goal.invariant-loop-key
invariant-loop-key l = NoneOver l.self l.from l.key l.now
