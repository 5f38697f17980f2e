use Rattle.vtimezone_reader.proofs.TurnLists.{adds_none, none_ruled}
use Rattle.vtimezone_reader.proofs.turns.add_rule.Goals as goal

pub returns-in-None : goal.returns-in-None
returns-in-None c =
    adds_none _ c.args.place c.args.t.seconds c.args.end.seconds _ (none_ruled c.args.part.now c.args.t.seconds c.args.end.seconds c.in-None.is)
