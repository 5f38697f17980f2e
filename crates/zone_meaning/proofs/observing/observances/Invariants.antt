use Rattle.std.proofs.Common.{◌≡◌, ◌++◌, length}
use Rattle.zone_meaning.specs.Observed.{observed}
use Rattle.zone_meaning.specs.State.{zone_state}
use Rattle.zone_meaning.proofs.observing.observances.Given as goal

-- what is listed, with what is left, is the whole
abbrev pub invariant-loop-observance : goal.invariant-loop-observance
invariant-loop-observance l = l.list ++ l.rest ≡ observed (zone_state l.fn.zone) l.fn.a.seconds l.fn.b.seconds

abbrev pub decreases-loop-observance : goal.decreases-loop-observance
decreases-loop-observance l = length l.rest
