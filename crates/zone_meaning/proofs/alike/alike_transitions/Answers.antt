use Rattle.zone_meaning.proofs.AlikeBefore.{one_more_alike}
use Rattle.zone_meaning.proofs.alike.alike_transitions.Goals as goal

pub loop-place-preserved : goal.loop-place-preserved
loop-place-preserved c =
    one_more_alike c.args.one.now c.args.two.now c.loop-place.place c.loop-place.invariant (c.is_alike_at.ensures c.if-not-is_alike_at.false)
