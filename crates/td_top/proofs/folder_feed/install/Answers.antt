use Rattle.std.proofs.Common.{ap, refl, ◌∙◌}
use Rattle.console.specs.Replies.{reply_text}
use Rattle.console.specs.declared.said.Said.TheVariants as said
use Rattle.catalogue.specs.Holdings.{history_of}
use Rattle.td_top.proofs.FolderLines.{is_installed, is_refused}
use Rattle.td_top.proofs.folder_feed.install.Goals as goal

pub returns-in-Ok : goal.returns-in-Ok
returns-in-Ok g c = λ line asks.
    is_installed _ _ _ c.args.session.now c.install.new.self line c.args.dir.now _ (λ u. history_of c.install.new.self.installer.list) c.in-Ok.field-0
    asks (rw c.as_slice.ensures at c.in-Ok.ensures.found) refl c.in-Ok.ensures.grown c.in-Ok.ensures.heard c.install.ensures.later c.install.new.self.knows
    (c.brief.ensures ∙ ap (λ t. reply_text (said.Installed t)) c.newest.ensures)

pub returns-in-Err : goal.returns-in-Err
returns-in-Err g c = λ line asks.
    is_refused _ _ _ c.args.session.now c.install.new.self line c.args.dir.now c.in-Err.fault _
    (λ u. history_of c.install.new.self.installer.list) asks (rw c.as_slice.ensures at c.in-Err.ensures.found) c.in-Err.ensures.refused
    c.in-Err.ensures.unheard c.install.ensures.later c.install.new.self.knows c.refusal.ensures
