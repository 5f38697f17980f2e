use Rattle.std.proofs.Common.{List, ap, sym, subst, ◌∙◌}
use Rattle.td_base.specs.Views.{File}
use Rattle.console.specs.Replies.{reply_text}
use Rattle.console.specs.declared.said.Said.TheVariants as said
use Rattle.sync_core.specs.Published.{HasFiles}
use Rattle.td_top.proofs.FollowLines.{differs, is_not_compared, is_unchanged, same_files}
use Rattle.td_top.proofs.mirror_feed.publish_stated.Goals as goal

pub returns-in-Ok-true : goal.returns-in-Ok-true
returns-in-Ok-true g c = λ s is has.
    is_unchanged c.args.store.now c.args.manifest.now s is has c.args.session.now _ _ (rw c.in-Ok-true.field-0-test at c.in-Ok-true.ensures)
    (c.brief.ensures ∙ ap (λ t. reply_text (said.Unchanged t)) c.newest.ensures)

pub returns-in-Ok-false : goal.returns-in-Ok-false
returns-in-Ok-false g c = λ s is has.
    let told = rw c.in-Ok-false.field-0-test at c.in-Ok-false.ensures in
    c.install.ensures s is (subst (λ (files : List File). HasFiles files s.files) (sym (same_files c.args.store.now c.last_matches.new.store told.later)) has)
    (differs c.args.store.now c.args.manifest.now s is has c.args.session.now _ told)

pub returns-in-Err : goal.returns-in-Err
returns-in-Err g c = λ s is has.
    is_not_compared c.args.store.now c.args.manifest.now s is has c.args.session.now _ c.in-Err.fault _ c.in-Err.ensures c.refusal.ensures
