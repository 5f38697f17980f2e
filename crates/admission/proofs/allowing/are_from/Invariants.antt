use Rattle.std.proofs.Common.{◌≡◌, drop}
use Rattle.std.specs.List.{list_all}
use Rattle.admission.specs.Rules.{is_from}
use Rattle.admission.proofs.allowing.are_from.Given as goal

abbrev pub invariant-loop-change : goal.invariant-loop-change
invariant-loop-change l =
    list_all (λ c. is_from l.moment c.first) (drop l.change-index l.changed) ≡ list_all (λ c. is_from l.moment c.first) l.changed
