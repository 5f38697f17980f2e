use Rattle.std.proofs.Common.{refl, ap, ◌∙◌}
use Rattle.std.proofs.lemmas.List.Elements.{All-pop, All-rest}
use Rattle.connection.specs.DoorWorks.{NoneOut}
use Rattle.run_ends.specs.Opening.{HasSeen}
use Rattle.td_top.proofs.WorkLemmas.{is_work, signs_more, still_as_many, works_more}
use Rattle.run_ends.proofs.lemmas.Learning.{takes_more}
use Rattle.td_top.proofs.works.works_for.Goals as goal

pub loop-door-preserved : goal.loop-door-preserved
loop-door-preserved g c =
    let before = c.loop-door in
    let step = c.in-Some.ensures.steps.0 in
    record {
      whole = takes_more before.yielded before.door-iterator.rest.items c.in-Some.door c.next.new.self.rest.items _ before.invariant.whole step;
      many = still_as_many before.door-iterator.rest.items c.next.new.self.rest.items c.in-Some.door before.left.items c.pop.new.self.items c.pop.result
          c.unwrap-desk.result before.invariant.many step c.pop.ensures.items c.unwrap-desk.ensures;
      new = All-rest (λ d. NoneOut (g.D.Door.seen d)) c.in-Some.door c.next.new.self.rest.items before.door-iterator.rest.items step before.invariant.new;
      desks = λ pair least h. (All-pop (HasSeen pair least) before.left.items c.pop.new.self.items c.pop.result c.pop.ensures.items
          (before.invariant.desks pair least h)).0;
      works = λ pair least h.
          works_more g.D.Door.seen c.args.role.now pair least before.yielded before.works.items c.push.new.self.items c.in-Some.door c.new-in-loop-door.result
          (before.invariant.works pair least h) c.in_ok-push.ensures.items
          (is_work c.args.role.now pair least (g.D.Door.seen c.in-Some.door) c.new-in-loop-door.result _ before.left.items c.pop.new.self.items
          c.pop.result c.unwrap-desk.result
          c.new-in-loop-door.ensures c.in_ok-own.ensures refl refl c.pop.ensures.items c.unwrap-desk.ensures (before.invariant.desks pair least h));
      down = ap (λ f. f.raised) c.share.ensures.flag ∙ before.invariant.down;
      signs = signs_more before.flag c.share.new.self c.in_ok-sign.sign before.works.items c.push.new.self.items c.new-in-loop-door.result
          before.invariant.signs
          c.in_ok-push.ensures.items c.share.ensures.flag (ap (λ w. w.stop) c.new-in-loop-door.ensures) c.in_ok-sign.ensures.sign;
    }
