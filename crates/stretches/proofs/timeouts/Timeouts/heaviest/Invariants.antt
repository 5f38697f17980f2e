use Rattle.stretches.specs.Timeouts.{HeaviestAmong}
use Rattle.stretches.proofs.timeouts.Timeouts.heaviest.Given as goal

abbrev pub invariant-loop-key : goal.invariant-loop-key
invariant-loop-key l = HeaviestAmong l.self l.key l.now l.found
