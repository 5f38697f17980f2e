use Rattle.std.proofs.Common.{◌≡◌, ◌<◌, length, rules, sym, ◌∙◌}
use Rattle.admission.proofs.Ordered.{borrowed_next, borrowed_other}
use Rattle.admission.proofs.differing.are_texts.Goals as goal

pub returns-then-not-is_text : goal.returns-then-not-is_text
returns-then-not-is_text c =
    let same : length c.args.texts.now ≡ length c.args.borrowed.now = search rules in
    let less : c.loop-at.at < length c.args.borrowed.now = search rules in
    borrowed_other (λ a. a.now) c.args.borrowed.now c.args.texts.now c.loop-at.at c.index-borrowed-at.result c.index-texts-at.result same less c.index-borrowed-at.is
    c.index-texts-at.is (sym c.is_text.ensures ∙ c.if-not-is_text.true) c.loop-at.invariant

pub loop-at-preserved : goal.loop-at-preserved
loop-at-preserved c =
    let same : length c.args.texts.now ≡ length c.args.borrowed.now = search rules in
    let less : c.loop-at.at < length c.args.borrowed.now = search rules in
    borrowed_next (λ a. a.now) c.args.borrowed.now c.args.texts.now c.loop-at.at c.index-borrowed-at.result c.index-texts-at.result same less c.index-borrowed-at.is
    c.index-texts-at.is (sym c.is_text.ensures ∙ c.if-not-is_text.false) c.loop-at.invariant
