use Rattle.vtimezone_reader.proofs.RuleOnsets.{onset_from_start}
use Rattle.vtimezone_reader.proofs.TurnLists.{adds_part}
use Rattle.vtimezone_reader.proofs.turns.add_part.Goals as goal

pub returns : goal.returns
returns c =
    adds_part c.args.part.now c.args.place c.args.t.seconds c.args.end.seconds _ _ _ _ (onset_from_start c.args.part.now) c.in_ok-add_one.ensures
    (rw c.as_slice.ensures at c.in_ok-add_dates.ensures) c.in_ok-add_rule.ensures
