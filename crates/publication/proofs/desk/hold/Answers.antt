use Rattle.std.proofs.Common.{◌≡◌, ◌≤◌, length, true, ap, arith}
use Rattle.publication.specs.Histories.{values, ended_in}
use Rattle.td_base.proofs.lemmas.Beginnings.{prefix_self, prefix_whole}
use Rattle.publication.proofs.Beginnings.{fewer, no_longer}
use Rattle.publication.proofs.desk.hold.Goals as goal

pub returns-then-number-held-clause-seen : goal.returns-then-number-held-clause-seen
returns-then-number-held-clause-seen g c = prefix_self _

pub returns-then-number-held-2-clause-ok : goal.returns-then-number-held-2-clause-ok
returns-then-number-held-2-clause-ok g c =
    let size : length (values c.args.held.now.prefix.log) ≤ length (values c.args.found.prefix.log) =
    omega (arith, c.if-number-held-2.true, c.args.held.now.numbered, c.requires.number) in
    let back : length (values c.args.found.prefix.log) ≤ length (values c.args.held.now.prefix.log) =
    omega (arith, c.if-number-held-2.true, c.args.held.now.numbered, c.requires.number) in
    prefix_whole _ _ (fewer _ _ _ c.are_of_one.ensures.this c.are_of_one.ensures.that size) back

pub returns-then-number-held-2-clause-seen : goal.returns-then-number-held-2-clause-seen
returns-then-number-held-2-clause-seen g c = prefix_self _

pub returns-in_default-clause-seen : goal.returns-in_default-clause-seen
returns-in_default-clause-seen g c = prefix_self _

pub returns-clause-seen : goal.returns-clause-seen
returns-clause-seen g c =
    let edition = rw c.in-Some.is at c.requires.copy in
    let size : length (values c.args.held.now.prefix.log) ≤ length (values c.args.found.prefix.log) =
    omega (arith, c.if-number-held.false, c.args.held.now.numbered, c.requires.number) in
    rw (ap (λ f. f.log) edition) (fewer _ _ _ c.are_of_one.ensures.this c.are_of_one.ensures.that size)

pub returns-clause-ended : goal.returns-clause-ended
returns-clause-ended g c =
    λ (h : ended_in c.args.held.now.prefix.log ≡ true).
    let most = no_longer _ _ _ c.are_of_one.ensures.this c.are_of_one.ensures.that c.are_of_one.ensures.seal h in
    absurd {A = c.in-Some.edition.prefix ≡ c.args.held.now.prefix}
    (omega (arith, most, c.if-number-held.false, c.if-number-held-2.false, c.args.held.now.numbered, c.requires.number))
