use Rattle.actions.proofs.Parts.{step_again}
use Rattle.actions.proofs.periods.put_again.Goals as goal

pub changes-preserved : goal.changes-preserved
changes-preserved c =
    let i = c.changes.invariant in
    rw (c.in_ok-push_back.ensures.items, c.go_on.ensures)
    (step_again c.args.period.now.items c.changes.period.items i.0 i.1 c.pop_front.new.self.items c.in-Some.observance c.args.text.now c.changes.text
    c.write.new.self c.changes.left i.2 i.3 c.changes-test.true c.in-Some.ensures.items (rw (← c.go_on.ensures) c.in_ok-write.ensures))
