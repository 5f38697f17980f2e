use Rattle.std.proofs.Common.{List, length}
use Rattle.td_civil.specs.declared.local_time.Observance.{Observance}
use Rattle.actions.proofs.Parts.{IsPut}
use Rattle.actions.proofs.periods.put_changes.Given as goal

abbrev pub decreases-changes : goal.decreases-changes
decreases-changes l = length l.changes

abbrev pub invariant-changes : goal.invariant-changes
invariant-changes l = (done : List Observance) × IsPut l.fn.changes done l.changes l.fn.text l.text
