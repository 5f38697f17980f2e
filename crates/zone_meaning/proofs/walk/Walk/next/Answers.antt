use Rattle.zone_meaning.specs.State.{state_at}
use Rattle.zone_meaning.specs.Walks.{StaysUntil}
use Rattle.zone_meaning.proofs.lemmas.ChangeLists.{none_left}
use Rattle.zone_meaning.proofs.walk.Walk.next.Goals as goal

pub returns-clause-none : goal.returns-clause-none
returns-clause-none c = λ none.
    let w = c.loop-stop.self in
    let stays : StaysUntil (state_at w.lists w.footer.now) w.at.seconds w.end.seconds = c.in_default.ensures.stop in
    none_left (state_at w.lists w.footer.now) w.at.seconds w.end.seconds c.loop-stop.invariant.sound.before_end stays
