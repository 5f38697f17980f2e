use Rattle.std.proofs.Common.{◌≡◌, ◌<◌, ℕ, length, get_or, sym, subst, arith}
use Rattle.std.specs.Prelude.{◌<ℤ◌}
use Rattle.zone_meaning.proofs.AlikeBefore.{nothing}
use Rattle.zone_meaning.proofs.Counting.{begun_are}
use Rattle.zone_meaning.proofs.lookup.begun.Goals as goal

pub returns-clause-count : goal.returns-clause-count
returns-clause-count c =
    let moments = c.args.lists.now.moments in
    let meet : c.halves.high ≡ c.halves.low = omega (arith, c.halves.invariant.0, c.halves-test.false) in
    sym (begun_are moments c.args.t.seconds c.halves.low nothing c.requires.rising (omega (arith, c.halves.invariant.0, c.halves.invariant.1))
    (λ k e. c.halves.invariant.2 k nothing e)
    (subst (λ (n : ℕ). n < length moments → c.args.t.seconds <ℤ (get_or moments n nothing).seconds) meet (c.halves.invariant.3 nothing)))
