use Rattle.std.proofs.Common.{rules, ◌≡◌, [], refl, ap, subst, ◌∙◌}
use Rattle.std.proofs.lemmas.List.{nil_from_length}
use Rattle.std.proofs.lemmas.List.Elements.{All-push, All-rest}
use mathlib.Core.List.{IsPrefix}
use Rattle.td_top.proofs.WorkLemmas.{any_more, doors_more, learnt_all}
use Rattle.run_ends.proofs.lemmas.Learning.{takes_more}
use Rattle.td_top.proofs.works.learn_all.Goals as goal

pub loop-done-preserved : goal.loop-done-preserved
loop-done-preserved g c =
    let before = c.loop-done in
    let step = c.in-Some.ensures.steps.0 in
    let told = c.in_ok-receipt.ensures.ok in
    record {
      whole = takes_more before.yielded before.done-iterator.rest.items c.in-Some.done c.next.new.self.rest.items _ before.invariant.whole step;
      pairs = All-rest (λ d. d.desk.pair ≡ c.args.ended.now.pair) c.in-Some.done c.next.new.self.rest.items before.done-iterator.rest.items step
          before.invariant.pairs;
      kept = c.receipt.ensures.kept ∙ before.invariant.kept;
      doors = doors_more before.yielded c.in-Some.done before.doors.items c.push.new.self.items before.invariant.doors c.in_ok-push.ensures.items;
      worn = any_more (λ d. d.worn) before.yielded c.in-Some.done before.worn _ before.invariant.worn refl;
      seen = All-push (λ d. IsPrefix d.desk.seen c.args.ended.now.list) before.yielded c.in-Some.done before.invariant.seen
          (subst (λ l. IsPrefix c.in-Some.done.desk.seen l) ((c.learn.ensures.whole told.2).0 ∙ (told.0 ∙ ap (λ e. e.list) before.invariant.kept))
          c.learn.ensures.seen);
    }

pub returns : goal.returns
returns g c =
    let none : c.loop-done.done-iterator.rest.items ≡ [] = nil_from_length _ (search rules) in
    record {
      learnt = learnt_all c.args.ended.now.list c.loop-done.yielded c.loop-done.done-iterator.rest.items c.args.dones.items c.loop-done.doors.items
          c.loop-done.worn
          c.loop-done.invariant.whole none c.loop-done.invariant.doors c.loop-done.invariant.worn c.loop-done.invariant.seen;
    }
