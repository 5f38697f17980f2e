use Rattle.std.proofs.Common.{Some, refl}
use Rattle.zone_meaning.specs.State.{zone_state}
use Rattle.zone_meaning.proofs.Differing.{apart_is, apart_none, apart_other}
use Rattle.zone_meaning.proofs.difference.difference_between.Goals as goal

pub loop-change-init : goal.loop-change-init
loop-change-init c = λ r apart.
    let one = c.new-of_one.ensures in
    let two = c.new-of_two.ensures in
    apart_is (zone_state c.args.one.now) (zone_state c.args.two.now) c.args.from.seconds c.args.end.seconds r c.requires.1 (rw (one, two) at apart)

pub returns-in-None : goal.returns-in-None
returns-in-None c =
    c.loop-change.invariant (Some c.in-Some.change.onset)
    (apart_none c.loop-change.of_one c.loop-change.of_two c.next.new.self c.next-in-Some.new.self c.in-Some.change c.in-Some.ensures.next
    c.in-None.ensures.next (c.in-None.ensures.none refl))

pub returns-then-not-is_same : goal.returns-then-not-is_same
returns-then-not-is_same c =
    c.loop-change.invariant (Some c.earlier.result)
    (apart_other c.loop-change.of_one c.loop-change.of_two c.next.new.self c.next-in-Some.new.self c.in-Some.change c.in-Some-next.other
    c.is_same.result c.earlier.result c.in-Some.ensures.next c.in-Some-next.ensures.next c.is_same.ensures c.if-not-is_same.true c.earlier.ensures)
