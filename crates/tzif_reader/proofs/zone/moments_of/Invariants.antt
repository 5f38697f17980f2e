use Rattle.std.proofs.Common.{◌≡◌}
use Rattle.tzif_reader.specs.Cut.{items, transition_at}
use Rattle.tzif_reader.proofs.zone.moments_of.Given as goal

abbrev pub invariant-loop-i : goal.invariant-loop-i
invariant-loop-i l = l.moments ≡ items l.i (transition_at l.times)
