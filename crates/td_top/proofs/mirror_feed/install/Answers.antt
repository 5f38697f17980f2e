use Rattle.std.proofs.Common.{ap, refl, ◌∙◌}
use Rattle.catalogue.specs.Holdings.{history_of}
use Rattle.console.specs.Replies.{reply_text}
use Rattle.console.specs.declared.said.Said.TheVariants as said
use Rattle.td_top.proofs.FollowLines.{is_joined, is_not_joined}
use Rattle.td_top.proofs.mirror_feed.install.Goals as goal

pub returns-in-Ok : goal.returns-in-Ok
returns-in-Ok g c = λ s is has other.
    is_joined c.args.store.now c.args.manifest.now s is has c.args.session.now _ c.install_stated.new.self _
    (λ u. history_of c.install_stated.new.self.installer.list) c.in-Ok.field-0 c.in-Ok.ensures.found refl other c.install_stated.ensures.later
    c.in-Ok.ensures.heard
    (c.brief.ensures ∙ ap (λ t. reply_text (said.Installed t)) c.newest.ensures)

pub returns-in-Err : goal.returns-in-Err
returns-in-Err g c = λ s is has other.
    is_not_joined c.args.store.now c.args.manifest.now s is has c.args.session.now _ c.install_stated.new.self c.in-Err.fault _
    (λ u. history_of c.install_stated.new.self.installer.list) c.in-Err.ensures.found c.in-Err.ensures.refused other c.install_stated.ensures.later
    c.in-Err.ensures.unheard
    c.refusal.ensures
