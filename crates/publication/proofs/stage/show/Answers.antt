use Rattle.std.proofs.Common.{sym, ap, ◌∙◌}
use Rattle.publication.specs.Histories.{values}
use Rattle.publication.specs.ShownRule.{home_of}
use Rattle.publication.specs.ShownRule.{told_of}
use Rattle.publication.proofs.StepLemmas.{publishes}
use Rattle.publication.proofs.LastSet.{shows_last}
use Rattle.publication.proofs.EnteringLemmas.{same_list}
use Rattle.publication.proofs.stage.show.Goals as goal

pub publish_as-stage-requires : goal.publish_as-stage-requires
publish_as-stage-requires g c next is =
    let desk = c.append.ensures.desk in
    let role = ap (λ k. k.place.me.0.client.role) desk ∙ c.requires.role in
    let home = c.requires.home ∙ sym (ap (λ k. k.place.me.0.client.home) desk) in
    publishes _ _ _ _ _ _ next (told_of (values c.args.edition.prefix.log) (home_of c.args.edition.prefix.book)) role (g.met.T.Sets.content_is next
    ∙ shows_last _ g.T.Sets.of_state (λ op. told_of (values op.prefix.log) (home_of op.prefix.book)) g.met.T.Sets.sets _ _ _ _ _
    c.in-Ok.ensures.pending is) (rw (ap (λ k. k.place.me.0.client.list) desk) c.requires.longer) home

pub returns-clause-list : goal.returns-clause-list
returns-clause-list g c =
    let rule = rw c.in-Ok-result.is at c.publish_as-stage.ensures.rule in
    let all = rw c.in-Ok-result.is at c.publish_as-stage.ensures.values in
    let shown = g.met.T.Sets.content_is c.publish_as-stage.result.0.desk.shown.value
    ∙ shows_last _ g.T.Sets.of_state (λ op. told_of (values op.prefix.log) (home_of op.prefix.book)) g.met.T.Sets.sets _ _ _ _ _
    c.in-Ok.ensures.pending all.0 in
    ap (λ v. v.list) rule.2 ∙ same_list rule.0 (told_of (values c.args.edition.prefix.log) (home_of c.args.edition.prefix.book)) (sym rule.1 ∙ shown)
