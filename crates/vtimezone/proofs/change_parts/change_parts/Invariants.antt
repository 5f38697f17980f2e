use Rattle.std.proofs.Common.{length}
use Rattle.zone_meaning.specs.Observed.{observed}
use Rattle.zone_meaning.specs.State.{zone_state}
use Rattle.vtimezone.proofs.lemmas.Gathered.{AreGathered}
use Rattle.vtimezone.proofs.change_parts.change_parts.Given as goal

-- the parts so far are those of the changes that are not left
abbrev pub invariant-loop-change : goal.invariant-loop-change
invariant-loop-change l =
    AreGathered (observed (zone_state l.fn.zone) l.fn.from.seconds l.fn.end.seconds) l.parts.items l.rest

abbrev pub decreases-loop-change : goal.decreases-loop-change
decreases-loop-change l = length l.rest
