use Rattle.vtimezone.proofs.lemmas.Gathered.{gathered_begin, gathered_next}
use Rattle.vtimezone.proofs.change_parts.change_parts.Goals as goal

pub loop-change-init : goal.loop-change-init
loop-change-init c = gathered_begin _ c.new-rest.result c.new-parts.result.items c.new-parts.ensures.items c.new-rest.ensures

pub loop-change-preserved : goal.loop-change-preserved
loop-change-preserved c =
    gathered_next _ c.loop-change.rest c.next.new.self c.loop-change.parts.items c.join.new.parts.items c.in-Some.change
    c.loop-change.invariant c.in-Some.ensures.next c.in_ok-join.ensures
