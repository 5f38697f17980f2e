use Rattle.std.proofs.Common.{◌++◌, ◌-◌, length}
use Rattle.zone_meaning.specs.Observed.{changes_between}
use Rattle.vtimezone_reader.specs.Onsets.{calendar_state}
use Rattle.vtimezone_reader.proofs.TurnWalk.{IsListedTo}
use Rattle.vtimezone_reader.proofs.expanding.append_changes.Given as goal

abbrev pub invariant-turns : goal.invariant-turns
invariant-turns l =
    IsListedTo l.parts l.fn.t.seconds l.fn.end.seconds l.turns.items l.next l.before l.out
    (l.fn.out ++ changes_between (calendar_state l.parts) l.fn.t.seconds l.fn.end.seconds)

abbrev pub decreases-turns : goal.decreases-turns
decreases-turns l = length l.turns.items - l.next
