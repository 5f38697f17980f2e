use Rattle.std.proofs.Common.{◌≡◌, [], ◌∷◌, ◌++◌, false, sym, ap, ◌∙◌, inl, refl}
use Rattle.std.specs.Arc.{arc_value}
use Rattle.publication.specs.Histories.{values, ended_in}
use Rattle.publication.specs.ShownRule.{home_of}
use Rattle.publication.proofs.Beginnings.{added_values, added_list, added_going}
use Rattle.publication.proofs.StageLemmas.{stage_at, stage_longer}
use Rattle.publication.proofs.publisher.PublisherOf.publish.Goals as goal

pub returns-in_default-clause-stuck : goal.returns-in_default-clause-stuck
returns-in_default-clause-stuck g c = inl refl

pub add-requires-clause-stands : goal.add-requires-clause-stands
add-requires-clause-stands g c =
    let free = c.self.invariant.2 c.if-self.false in
    let mine = ap values free.0 ∙ ap (λ s. s.list) c.self.view_is in
    rw (mine, c.in-Ok.ensures.0) c.requires

pub show_held-requires : goal.show_held-requires
show_held-requires g c =
    let free = c.self.invariant.2 c.if-self.false in
    let list = ap (λ s. values s.log) c.in-Ok-add.ensures.editions.2 ∙ (added_values _ _ _ c.in-Ok-add.ensures.added ∙ ap (λ l. l ++ arc_value c.in-Ok.owners.0 ∷ []) (ap values free.0)) in
    stage_longer (λ w. w.desk.place.me.0.client) _ _ _ _ _
    (ap home_of (sym c.add.ensures.book ∙ sym (ap (λ s. s.book) c.in-Ok-add.ensures.editions.2))) (arc_value c.in-Ok.owners.0 ∷ [], sym list) c.self.invariant.0

pub invariant_of-self-2 : goal.invariant_of-self-2
invariant_of-self-2 g c =
    let free = c.self.invariant.2 c.if-self.false in
    let shown = rw c.in-Ok-show_held.is at c.show_held.ensures in
    let kept = c.in-Ok-add.ensures.editions.1 in
    let edition = c.in-Ok-add.ensures.editions.2 in (
      stage_at (λ w. w.desk.place.me.0.client) _ _ _ _ _ (ap (λ s. home_of s.book) edition)
          (ap (λ s. values s.log) edition ∙ sym (ap (λ s. values s.log) kept)) shown,
      ap (λ s. s.book) kept,
      λ (h : false ≡ false). (
        sym (ap (λ s. s.log) kept),
        ap (λ s. ended_in s.log) kept
            ∙ added_going _ _ _ c.in-Ok-add.ensures.added (ap ended_in free.0 ∙ free.1),
      ),
    )

pub returns-clause-ok : goal.returns-clause-ok
returns-clause-ok g c =
    let free = c.self.invariant.2 c.if-self.false in
    let mine = ap values free.0 ∙ ap (λ s. s.list) c.self.view_is in
    let told = c.in-Ok-add.ensures.editions.0 in
    let kept = c.in-Ok-add.ensures.editions.1 in (
      ap (λ s. s.book) told ∙ (c.add.ensures.book ∙ ap (λ s. s.pair) c.self.view_is),
      ap (λ s. values s.log) told ∙ added_list _ _ _ _ _ c.in-Ok-add.ensures.added mine c.in-Ok.ensures.0,
      ap (λ s. ended_in s.log) told ∙ added_going _ _ _ c.in-Ok-add.ensures.added (ap ended_in free.0 ∙ free.1),
      ap (λ s. values s.log) kept ∙ sym (ap (λ s. values s.log) told),
    )
