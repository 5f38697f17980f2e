use Rattle.vtimezone_reader.proofs.TurnLists.{are_more}
use Rattle.vtimezone_reader.proofs.turns.all_turns.Goals as goal

pub loop-place-preserved : goal.loop-place-preserved
loop-place-preserved c =
    are_more c.args.parts.now c.loop-place.place c.index-parts-place.result c.args.t.seconds c.args.end.seconds _ _ c.loop-place-test.true
    c.index-parts-place.is
    c.loop-place.invariant c.in_ok-add_part.ensures
