use Rattle.vtimezone_reader.proofs.TurnLists.{adds_date}
use Rattle.vtimezone_reader.proofs.turns.add_dates.Goals as goal

pub loop-date-preserved : goal.loop-date-preserved
loop-date-preserved c =
    adds_date c.args.dates.now c.loop-date.date-index _ c.args.place c.args.t.seconds c.args.end.seconds c.args.turns.now.items c.loop-date.turns.items _
    c.loop-date-test.true c.loop-date.invariant c.in_ok-add_one.ensures
