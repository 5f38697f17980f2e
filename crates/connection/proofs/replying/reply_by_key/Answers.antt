use Rattle.answer_cache.proofs.lemmas.Kept.{newest_kept}
use Rattle.connection.proofs.KeepingLemmas as keeping
use Rattle.connection.proofs.replying.reply_by_key.Goals as goal

pub returns-then-promote-clause-sends : goal.returns-then-promote-clause-sends
returns-then-promote-clause-sends g c =
    keeping.sent_with _ _ _ _ _ _
    (c.requires.kept.many _ _ (c.promote.ensures.kept.pairs _ _ (newest_kept _ _ _ (c.promote.ensures.first c.if-promote.true) c.newest.ensures)))
    _ _ c.send_ready.result c.send_ready.ensures.sends

pub returns-then-promote-clause-kept : goal.returns-then-promote-clause-kept
returns-then-promote-clause-kept g c =
    keeping.fewer _ _ c.args.kept.now _ c.promote.ensures.kept.pairs (λ key answer k. k) c.requires.kept

pub returns-then-promote-2-clause-sends : goal.returns-then-promote-2-clause-sends
returns-then-promote-2-clause-sends g c =
    keeping.sent_with _ _ _ _ _ _
    (c.requires.kept.large _ _ (c.promote-2.ensures.kept.pairs _ _ (newest_kept _ _ _ (c.promote-2.ensures.first c.if-promote-2.true) c.newest-then-promote-2.ensures)))
    _ _ c.send_ready-then-promote-2.result c.send_ready-then-promote-2.ensures.sends

pub returns-then-promote-2-clause-kept : goal.returns-then-promote-2-clause-kept
returns-then-promote-2-clause-kept g c =
    keeping.fewer _ _ c.args.kept.now _ c.promote.ensures.kept.pairs c.promote-2.ensures.kept.pairs c.requires.kept

pub send_new-requires-clause-kept : goal.send_new-requires-clause-kept
send_new-requires-clause-kept g c =
    keeping.fewer _ _ c.args.kept.now _ c.promote.ensures.kept.pairs c.promote-2.ensures.kept.pairs c.requires.kept
