use Rattle.std.specs.Arc.{arc_value}
use Rattle.std.proofs.Common.{Some, refl, sym, ap, ◌∙◌}
use Rattle.publication.proofs.Beginnings.{added_last, added_count, added_going}
use Rattle.publication.proofs.publisher.add.Goals as goal

pub of_last-requires-clause-last : goal.of_last-requires-clause-last
of_last-requires-clause-last g c = added_last _ _ _ c.if-not-add.ensures.added
    ∙ ap Some (c.deref-value.ensures ∙ sym c.requires.alike.0)

pub of_last-requires-clause-number : goal.of_last-requires-clause-number
of_last-requires-clause-number g c =
    let same = c.deref-value.ensures in
    c.count-number.ensures
    ∙ (ap g.V.Value.places same
    ∙ added_count g.V.Value.last _ _ _ _ _ _ c.if-not-add.ensures.added refl same
    (g.met.V.Value.counts (arc_value c.args.owners.0) _ c.requires.stands))

pub of_last-requires-clause-ended : goal.of_last-requires-clause-ended
of_last-requires-clause-ended g c = added_going _ _ _ c.if-not-add.ensures.added c.requires.going

pub of_last-requires-2-clause-number : goal.of_last-requires-2-clause-number
of_last-requires-2-clause-number g c =
    let same = c.deref-value.ensures in
    c.count-number.ensures
    ∙ (ap g.V.Value.places same
    ∙ added_count g.V.Value.last _ _ _ _ _ _ c.if-not-add.ensures.added refl same
    (g.met.V.Value.counts (arc_value c.args.owners.0) _ c.requires.stands))

pub of_last-requires-2-clause-ended : goal.of_last-requires-2-clause-ended
of_last-requires-2-clause-ended g c = added_going _ _ _ c.if-not-add.ensures.added c.requires.going

pub of_last-requires-3-clause-number : goal.of_last-requires-3-clause-number
of_last-requires-3-clause-number g c =
    let same = c.deref-value.ensures in
    c.count-number.ensures
    ∙ (ap g.V.Value.places same
    ∙ added_count g.V.Value.last _ _ _ _ _ _ c.if-not-add.ensures.added refl same
    (g.met.V.Value.counts (arc_value c.args.owners.0) _ c.requires.stands))

pub of_last-requires-3-clause-ended : goal.of_last-requires-3-clause-ended
of_last-requires-3-clause-ended g c = added_going _ _ _ c.if-not-add.ensures.added c.requires.going
