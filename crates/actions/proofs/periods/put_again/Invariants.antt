use Rattle.std.proofs.Common.{◌≡◌, List, length}
use Rattle.td_civil.specs.declared.local_time.Observance.{Observance}
use Rattle.actions.proofs.Parts.{IsAgain}
use Rattle.actions.proofs.periods.put_again.Given as goal

abbrev pub decreases-changes : goal.decreases-changes
decreases-changes l = l.left

abbrev pub invariant-changes : goal.invariant-changes
invariant-changes l =
    (done rest : List Observance) × IsAgain l.fn.period.items l.period.items done rest l.fn.text l.text × (l.left ≡ length rest)
