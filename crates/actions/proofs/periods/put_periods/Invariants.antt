use Rattle.std.proofs.Common.{◌-ℤ◌, unsigned_abs}
use Rattle.zone_meaning.specs.State.{zone_state}
use Rattle.actions.proofs.Parts.{IsWrittenTo}
use Rattle.actions.proofs.periods.put_periods.Given as goal

abbrev pub decreases-periods : goal.decreases-periods
decreases-periods l = unsigned_abs (l.fn.until.seconds -ℤ l.end.seconds)

abbrev pub invariant-periods : goal.invariant-periods
invariant-periods l = IsWrittenTo (zone_state l.fn.zone) l.fn.start.seconds l.fn.until.seconds l.end.seconds l.period.items l.fn.text l.text
