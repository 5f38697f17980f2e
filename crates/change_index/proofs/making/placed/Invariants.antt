use Rattle.std.proofs.Common.{◌≡◌, ◌++◌, drop}
use Rattle.change_index.specs.Keeping.{placed_from}
use Rattle.change_index.proofs.making.placed.Given as goal

abbrev pub invariant-loop-at : goal.invariant-loop-at
invariant-loop-at l = l.placed.items ++ placed_from l.at (drop l.at l.changes) ≡ placed_from 0 l.changes
