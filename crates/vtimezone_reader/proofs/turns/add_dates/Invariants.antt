use Rattle.std.proofs.Common.{take}
use Rattle.vtimezone_reader.specs.Onsets.{is_among}
use Rattle.vtimezone_reader.specs.Turns.{AddsTurns}
use Rattle.vtimezone_reader.proofs.turns.add_dates.Given as goal

abbrev pub invariant-loop-date : goal.invariant-loop-date
invariant-loop-date l =
    AddsTurns (is_among (take l.date-index l.dates)) l.place l.t.seconds l.end.seconds l.fn.turns.items l.turns.items
