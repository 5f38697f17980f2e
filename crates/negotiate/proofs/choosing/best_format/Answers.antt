use Rattle.std.proofs.Common.{rules, tests, sym, ap, nat_lt, map, ◌∙◌}
use Rattle.std.proofs.lemmas.List.{at_drop_more}
use Rattle.negotiate.specs.Choices.{named_offer}
use Rattle.negotiate.proofs.BestLemmas.{best_after, better, as_good}
use Rattle.negotiate.proofs.choosing.best_format.Goals as goal
use Rattle.negotiate.proofs.choosing.best_format.Goals.{then-quality-largest, else-quality-largest}

pub loop-offer-preserved : goal.loop-offer-preserved
loop-offer-preserved c =
    let field = c.args.field.now in
    let offers = c.args.offers.now in
    let i = c.loop-offer.offer-index in
    let turn = at_drop_more (λ os. best_after field c.loop-offer.best c.loop-offer.largest (map named_offer os)) offers i _ c.loop-offer-test.true in
    let so_far = sym turn ∙ c.loop-offer.invariant in
    elim c.if-quality-largest.branch [
      | then-quality-largest w ↦ rw (w.best-is, w.largest-is, c.quality_of-quality.ensures) (sym (better field _ _ _ _ (sym (ap (nat_lt c.loop-offer.largest) c.quality_of-quality.ensures) ∙ search (rules, tests))) ∙ so_far)
      | else-quality-largest w ↦ rw (w.best-is, w.largest-is) (sym (as_good field _ _ _ _ (sym (ap (nat_lt c.loop-offer.largest) c.quality_of-quality.ensures) ∙ search (rules, tests))) ∙ so_far)
    ]
