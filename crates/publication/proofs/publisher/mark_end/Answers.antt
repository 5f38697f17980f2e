use Rattle.std.specs.List.{last_or}
use Rattle.std.proofs.Common.{None, Some, length, sym, ap, ◌∙◌}
use Rattle.publication.specs.Histories.{values, ended_in}
use Rattle.publication.proofs.Beginnings.{added_mark}
use Rattle.publication.proofs.publisher.mark_end.Goals as goal

pub of_last-told-requires-clause-last : goal.of_last-told-requires-clause-last
of_last-told-requires-clause-last g c =
    let mark = added_mark _ _ c.if-not-finish.ensures.added in
    ap (last_or None) (mark.1 ∙ ap values c.requires.whole) ∙ (c.args.last.is_last ∙ ap Some (sym c.in-Ok.ensures))

pub of_last-told-requires-clause-number : goal.of_last-told-requires-clause-number
of_last-told-requires-clause-number g c =
    let mark = added_mark _ _ c.if-not-finish.ensures.added in
    c.args.last.numbered ∙ ap length (sym (mark.1 ∙ ap values c.requires.whole))

pub of_last-told-requires-clause-ended : goal.of_last-told-requires-clause-ended
of_last-told-requires-clause-ended g c = (added_mark _ _ c.if-not-finish.ensures.added).0

pub of_last-edition-requires-clause-number : goal.of_last-edition-requires-clause-number
of_last-edition-requires-clause-number g c =
    let mark = added_mark _ _ c.if-not-finish.ensures.added in
    c.args.last.numbered ∙ ap length (sym (mark.1 ∙ ap values c.requires.whole))

pub of_last-edition-requires-clause-ended : goal.of_last-edition-requires-clause-ended
of_last-edition-requires-clause-ended g c = (added_mark _ _ c.if-not-finish.ensures.added).0

pub returns-clause-list : goal.returns-clause-list
returns-clause-list g c =
    let mark = added_mark _ _ c.if-not-finish.ensures.added in
    ap (λ s. values s.log) c.of_last-told.ensures.0 ∙ (mark.1 ∙ ap values c.requires.whole)

pub returns-clause-ended : goal.returns-clause-ended
returns-clause-ended g c = ap (λ s. ended_in s.log) c.of_last-told.ensures.0 ∙ (added_mark _ _ c.if-not-finish.ensures.added).0
