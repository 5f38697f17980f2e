use Rattle.std.proofs.Common.{◌≡◌, ◌≤◌, length, true, sym, ◌∙◌, arith}
use Rattle.publication.specs.Histories.{values, ended_in}
use Rattle.td_base.proofs.lemmas.Beginnings.{prefix_length}
use Rattle.publication.proofs.Beginnings.{fewer, ended_has_all, both_whole, no_longer}
use Rattle.publication.proofs.desk.Desk.learn.Goals as goal

pub returns-then-edition-clause-seen : goal.returns-then-edition-clause-seen
returns-then-edition-clause-seen g c =
    rw (← c.self.view_is) (ended_has_all _ _ _ c.are_of_one.ensures.this c.are_of_one.ensures.that c.are_of_one.ensures.seal
    (sym c.receipt.inside.edition.marked
    ∙ c.if-edition.true))

pub returns-then-edition-clause-larger : goal.returns-then-edition-clause-larger
returns-then-edition-clause-larger g c =
    let most : length (values c.self.inside.held.prefix.log) ≤ length (values c.receipt.inside.edition.prefix.log) =
    prefix_length _ _ (ended_has_all _ _ _ c.are_of_one.ensures.this c.are_of_one.ensures.that c.are_of_one.ensures.seal
    (sym c.receipt.inside.edition.marked
    ∙ c.if-edition.true)) in
    rw (← c.self.view_is, ← c.receipt.view_is) (omega (arith, most))

pub returns-then-edition-clause-ended : goal.returns-then-edition-clause-ended
returns-then-edition-clause-ended g c =
    let ended = sym c.receipt.inside.edition.marked ∙ c.if-edition.true in
    rw (← c.self.view_is) (λ (h : ended_in c.self.inside.held.prefix.log ≡ true). (
      both_whole _ _ _ c.are_of_one.ensures.this c.are_of_one.ensures.that c.are_of_one.ensures.seal h
          ended,
      ended,
    ))

pub returns-then-edition-self-clause-seen : goal.returns-then-edition-self-clause-seen
returns-then-edition-self-clause-seen g c =
    rw (← c.self.view_is) (fewer _ _ _ c.are_of_one.ensures.this c.are_of_one.ensures.that
    (omega (arith, c.if-edition-self.true, c.receipt.inside.edition.numbered, c.self.inside.held.numbered)))

pub returns-then-edition-self-clause-ended : goal.returns-then-edition-self-clause-ended
returns-then-edition-self-clause-ended g c =
    rw (← c.self.view_is) (λ (h : ended_in c.self.inside.held.prefix.log ≡ true).
    let most = no_longer _ _ _ c.are_of_one.ensures.this c.are_of_one.ensures.that c.are_of_one.ensures.seal h in
    absurd {A = (values c.receipt.inside.edition.prefix.log ≡ values c.self.inside.held.prefix.log) × (ended_in c.receipt.inside.edition.prefix.log ≡ true)}
    (omega (arith, most, c.if-edition-self.true, c.receipt.inside.edition.numbered, c.self.inside.held.numbered)))

pub returns-else-edition-self-clause-told : goal.returns-else-edition-self-clause-told
returns-else-edition-self-clause-told g c =
    rw (← c.self.view_is, ← c.receipt.view_is)
    (fewer _ _ _ c.are_of_one.ensures.that c.are_of_one.ensures.this
    (omega (arith, c.if-edition-self.false, c.receipt.inside.edition.numbered, c.self.inside.held.numbered)))
