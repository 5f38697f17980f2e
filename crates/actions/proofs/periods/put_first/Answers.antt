use Rattle.std.proofs.Common.{◌+ℤ◌, pos}
use Rattle.actions.proofs.Parts.{none_put, one_put, plain_between}
use Rattle.actions.proofs.periods.put_first.Goals as goal

pub changes-init : goal.changes-init
changes-init c =
    rw (c.new-period.ensures.items, c.after-changes.ensures, c.second_after.ensures)
    (none_put _ c.args.text.now (plain_between c.args.zone.now c.args.start.seconds (c.args.end.seconds +ℤ pos 1) c.requires.sound c.requires.range))

pub changes-preserved : goal.changes-preserved
changes-preserved c =
    rw (c.in_ok-push_back.ensures.items, c.new-observance.ensures)
    (one_put _ _ _ _ c.in-Some.change _ _ _ c.in-Some.ensures.next c.changes.invariant (rw (← c.new-observance.ensures) c.in_ok-write.ensures))
