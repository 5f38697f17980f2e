use Rattle.std.proofs.Common.{◌+ℤ◌, pos, length}
use Rattle.zone_meaning.specs.Observed.{changes_between}
use Rattle.zone_meaning.specs.State.{zone_state}
use Rattle.actions.proofs.Parts.{IsPut}
use Rattle.actions.proofs.periods.put_first.Given as goal

abbrev pub decreases-changes : goal.decreases-changes
decreases-changes l = length l.changes

abbrev pub invariant-changes : goal.invariant-changes
invariant-changes l =
    IsPut (changes_between (zone_state l.fn.zone) l.fn.start.seconds (l.fn.end.seconds +ℤ pos 1)) l.period.items l.changes l.fn.text l.text
