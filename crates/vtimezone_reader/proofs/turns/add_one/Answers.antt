use Rattle.std.proofs.Common.{sym}
use Rattle.vtimezone_reader.proofs.TurnLists.{adds_early, adds_late, adds_moment}
use Rattle.vtimezone_reader.proofs.turns.add_one.Goals as goal

pub returns-then-not-is_before : goal.returns-then-not-is_before
returns-then-not-is_before c = adds_early c.args.moment.seconds c.args.t.seconds c.args.end.seconds c.args.place _ (sym c.if-not-is_before.ensures)

pub returns-then-not-is_before-2 : goal.returns-then-not-is_before-2
returns-then-not-is_before-2 c = adds_late c.args.moment.seconds c.args.t.seconds c.args.end.seconds c.args.place _ (sym c.if-not-is_before-2.ensures)

pub returns : goal.returns
returns c =
    rw c.in_ok-push.ensures.items
    (adds_moment c.args.moment c.args.t.seconds c.args.end.seconds c.args.place c.args.turns.now.items (sym c.if-not-is_before.ensures)
    (sym c.if-not-is_before-2.ensures))
