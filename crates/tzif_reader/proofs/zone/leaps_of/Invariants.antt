use Rattle.std.proofs.Common.{◌≡◌}
use Rattle.tzif_reader.specs.Cut.{items, leap_at}
use Rattle.tzif_reader.proofs.zone.leaps_of.Given as goal

abbrev pub invariant-loop-i : goal.invariant-loop-i
invariant-loop-i l = l.lines ≡ items l.i (leap_at l.leaps)
