use Rattle.leap_table.proofs.Tables.{IsSoFar}
use Rattle.leap_table.proofs.table.steps_of.Given as goal

abbrev pub invariant-loop-number : goal.invariant-loop-number
invariant-loop-number l = IsSoFar l.lines l.steps l.number
