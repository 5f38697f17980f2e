use Rattle.std.proofs.Common.{[], ◌∷◌, ◌++◌, ◌∙◌}
use Rattle.actions.proofs.Parts.{none_put, one_put, all_put, appends_same}
use Rattle.actions.proofs.periods.put_changes.Goals as goal

pub changes-init : goal.changes-init
changes-init c = ([], none_put _ _ c.requires)

pub changes-preserved : goal.changes-preserved
changes-preserved c =
    let so_far = c.changes.invariant in
    (so_far.0 ++ c.in-Some.change ∷ [], one_put _ _ _ _ _ _ _ _ c.in-Some.ensures.next so_far.1 (rw (← c.new.ensures) c.in_ok-write.ensures))

pub returns : goal.returns
returns c =
    let so_far = c.changes.invariant in
    appends_same _ _ _ _ (all_put _ _ _ _ _ ((rw c.in_default.is at c.next.ensures.next) ∙ c.next.ensures.none c.in_default.is) so_far.1) so_far.1.put
