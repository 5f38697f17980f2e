use Rattle.std.proofs.Common.{◌≤◌, ◌-◌, length}
use Rattle.devices.proofs.exchanging.receive.Given as goal

abbrev pub invariant-pieces : goal.invariant-pieces
invariant-pieces g l = length l.held ≤ l.most

abbrev pub decreases-pieces : goal.decreases-pieces
decreases-pieces g l = l.most - length l.held
