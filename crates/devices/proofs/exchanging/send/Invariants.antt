use Rattle.std.proofs.Common.{◌≤◌, ◌-◌, length}
use Rattle.devices.proofs.exchanging.send.Given as goal

abbrev pub invariant-pieces : goal.invariant-pieces
invariant-pieces g l = l.at ≤ length l.bytes

abbrev pub decreases-pieces : goal.decreases-pieces
decreases-pieces g l = length l.bytes - l.at
