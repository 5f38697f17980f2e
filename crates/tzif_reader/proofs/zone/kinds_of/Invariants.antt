use Rattle.std.proofs.Common.{◌≡◌}
use Rattle.tzif_reader.specs.Cut.{items, kind_at}
use Rattle.tzif_reader.proofs.zone.kinds_of.Given as goal

abbrev pub invariant-loop-i : goal.invariant-loop-i
invariant-loop-i l = l.kinds ≡ items l.i (kind_at l.designations l.types)
