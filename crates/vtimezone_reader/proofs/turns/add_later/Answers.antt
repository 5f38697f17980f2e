use Rattle.std.proofs.Common.{sym}
use Rattle.vtimezone_reader.proofs.TurnLists.{adds_none, adds_later, none_later}
use Rattle.vtimezone_reader.proofs.turns.add_later.Goals as goal

pub returns-then-not-is_before : goal.returns-then-not-is_before
returns-then-not-is_before c =
    adds_none _ c.args.place c.args.t.seconds c.args.end.seconds _
    (none_later c.args.part.now c.args.t.seconds c.args.end.seconds c.later-from.result.seconds c.later-from.ensures (sym c.if-not-is_before.ensures))

pub returns : goal.returns
returns c =
    adds_later c.args.part.now c.args.rule.now c.args.place c.args.t.seconds c.args.end.seconds c.later-from.result.seconds _ _ c.requires.rule
    c.later-from.ensures
    c.in_ok-add_falls.ensures
