use Rattle.std.proofs.Common.{rules, ◌≡◌, [], length, All, ap, subst, ◌∙◌}
use Rattle.std.proofs.lemmas.List.{nil_from_length}
use Rattle.std.proofs.lemmas.List.Elements.{All-head, All-rest}
use mathlib.Core.List.{IsPrefix}
use Rattle.run_ends.proofs.lemmas.Learning.{as_many, seen_more, takes_more, took_all}
use Rattle.run_ends.proofs.opening.learn_opening.Goals as goal

pub loop-one-preserved : goal.loop-one-preserved
loop-one-preserved c =
    let before = c.loop-one in
    let step = c.in-Some.ensures.steps.0 in
    let told = c.in_ok-receipt.ensures in
    record {
      whole = takes_more before.yielded before.one-iterator.rest.items c.in-Some.one c.next.new.self.rest.items _ before.invariant.whole step;
      pairs = All-rest (λ d. d.pair ≡ c.args.installer.now.pair) c.in-Some.one c.next.new.self.rest.items before.one-iterator.rest.items step
          before.invariant.pairs;
      number = as_many before.yielded c.in-Some.one before.learnt.items c.push.new.self.items _ before.invariant.number c.in_ok-push.ensures.items;
      seen = seen_more c.args.installer.now.pair c.args.installer.now.list before.learnt.items c.push.new.self.items _ before.invariant.seen
          c.in_ok-push.ensures.items
          (c.learn.ensures.rest.0 ∙ All-head (λ d. d.pair ≡ c.args.installer.now.pair) c.in-Some.one c.next.new.self.rest.items
          (subst (λ ds. All (λ d. d.pair ≡ c.args.installer.now.pair) ds) step before.invariant.pairs))
          (subst (λ l. IsPrefix l c.learn.new.self.seen) told.0 c.learn.ensures.told);
    }

pub returns : goal.returns
returns c =
    let none : c.loop-one.one-iterator.rest.items ≡ [] = nil_from_length _ (search rules) in
    let all = took_all c.loop-one.yielded c.loop-one.one-iterator.rest.items c.args.desks.items c.loop-one.invariant.whole none in
    record {
      number = c.loop-one.invariant.number ∙ ap length all;
      seen = c.loop-one.invariant.seen;
    }
