use Rattle.std.proofs.Common.{◌-◌, length}
use Rattle.vtimezone_reader.proofs.TurnWalk.{IsWalkedTo}
use Rattle.vtimezone_reader.proofs.expanding.state_at.Given as goal

abbrev pub invariant-turns : goal.invariant-turns
invariant-turns l = IsWalkedTo l.parts l.fn.t.seconds l.turns.items l.next l.state

abbrev pub decreases-turns : goal.decreases-turns
decreases-turns l = length l.turns.items - l.next
