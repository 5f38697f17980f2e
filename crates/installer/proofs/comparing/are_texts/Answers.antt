use Rattle.std.proofs.Common.{◌<◌, length, rules}
use Rattle.std.proofs.lemmas.Option.{slice_get_read}
use Rattle.installer.proofs.Stated.{agree_text, borrowed_at, texts_differ}
use Rattle.installer.proofs.comparing.are_texts.Goals as goal

pub returns-then-not-is_text : goal.returns-then-not-is_text
returns-then-not-is_text c =
    let less : c.loop-at.at < length c.args.borrowed.now = search rules in
    texts_differ _ _ c.loop-at.at _ _ _ (borrowed_at (λ a. a.now) c.args.borrowed.now c.loop-at.at _ less c.index-borrowed-at.is)
    (slice_get_read c.args.texts.now (length c.args.borrowed.now) c.loop-at.at _ (search rules) less c.index-texts-at.is)
    c.is_text.ensures c.if-not-is_text.true

pub loop-at-preserved : goal.loop-at-preserved
loop-at-preserved c =
    let less : c.loop-at.at < length c.args.borrowed.now = search rules in
    agree_text _ _ c.loop-at.at _ _ _ (borrowed_at (λ a. a.now) c.args.borrowed.now c.loop-at.at _ less c.index-borrowed-at.is)
    (slice_get_read c.args.texts.now (length c.args.borrowed.now) c.loop-at.at _ (search rules) less c.index-texts-at.is)
    c.is_text.ensures c.if-not-is_text.false c.loop-at.invariant
