use Rattle.std.proofs.Common.{◌-◌, length}
use Rattle.vtimezone_reader.specs.Turns.{AreAt}
use Rattle.vtimezone_reader.proofs.turns.together.Given as goal

abbrev pub invariant-turns : goal.invariant-turns
invariant-turns l = AreAt l.turns l.from l.to l.first.onset.seconds l.part

abbrev pub decreases-turns : goal.decreases-turns
decreases-turns l = length l.turns - l.to
