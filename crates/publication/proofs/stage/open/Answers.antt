use Rattle.std.proofs.Common.{ap, sym, ◌∙◌}
use Rattle.publication.specs.Histories.{values}
use Rattle.publication.specs.ShownRule.{home_of, opened, told_of}
use Rattle.publication.proofs.EnteringLemmas.{same_view}
use Rattle.publication.proofs.StepLemmas.{starts, opens}
use Rattle.publication.proofs.LastSet.{shows_last}
use Rattle.publication.proofs.stage.open.Goals as goal

pub new-requires-clause-rule : goal.new-requires-clause-rule
new-requires-clause-rule g c = starts _ _ _ _ c.requires.vacant

pub publish_as-stage-requires : goal.publish_as-stage-requires
publish_as-stage-requires g c next is =
    let none = ap (λ k. g.T.Sets.content k.shown.value) c.append.ensures.desk ∙ (ap g.T.Sets.content c.in-Ok.ensures.0 ∙ c.requires.vacant) in
    opens _ _ _ _ _ _ next (told_of (values c.args.edition.prefix.log) (home_of c.args.edition.prefix.book)) none
    (g.met.T.Sets.content_is next
    ∙ shows_last _ g.T.Sets.of_state (λ op. told_of (values op.prefix.log) (home_of op.prefix.book)) g.met.T.Sets.sets _ _ _ _ _
    c.in-Ok-append.ensures.pending is) c.requires.some_value

pub returns : goal.returns
returns g c =
    let rule = rw c.in-Ok-result.is at c.publish_as-stage.ensures.rule in
    let all = rw c.in-Ok-result.is at c.publish_as-stage.ensures.values in
    let shown = g.met.T.Sets.content_is c.publish_as-stage.result.0.desk.shown.value
    ∙ shows_last _ g.T.Sets.of_state (λ op. told_of (values op.prefix.log) (home_of op.prefix.book)) g.met.T.Sets.sets _ _ _ _ _
    c.in-Ok-append.ensures.pending all.0 in
    rule.2
    ∙ ap (λ t. opened t.home t.list) (same_view rule.0 (told_of (values c.args.edition.prefix.log) (home_of c.args.edition.prefix.book)) (sym rule.1 ∙ shown))
