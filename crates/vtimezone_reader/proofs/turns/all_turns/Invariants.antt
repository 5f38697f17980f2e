use Rattle.vtimezone_reader.specs.Turns.{AreTurns}
use Rattle.vtimezone_reader.proofs.turns.all_turns.Given as goal

abbrev pub invariant-loop-place : goal.invariant-loop-place
invariant-loop-place l = AreTurns l.parts l.place l.t.seconds l.end.seconds l.turns.items
