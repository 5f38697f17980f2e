use Rattle.std.proofs.Common.{inl, inr, ◌≡◌, ◌∙◌, ap, sym, refl, rules, arith, ℕ, ℤ, pos, ◌+ℤ◌, ◌-ℤ◌, ◌<◌, to_z, of_z, to_z-of_z, w32, w64, FitsSigned}
use Rattle.jiff_core.proofs.SignedLemmas.{signed_arith}
use Rattle.jiff_core.specs.Calendar.{IsBetween}
use Rattle.std.proofs.lemmas.Bool.{cases_lt}
use Rattle.std.proofs.lemmas.Int.{by_lt_z}
use Rattle.posix_footer.specs.declared.rule_types.Edge.{Edge}
use Rattle.posix_footer.specs.declared.rule_types.DstRule.{DstRule}
use Rattle.posix_footer.specs.Onset.{onset_of}
use Rattle.posix_footer.proofs.lemmas.StateLemmas.{onset_after, onset_after_early, onset_before, latest_is, year_of}
use Rattle.posix_footer.proofs.state_at.latest.Goals as goal

pub loop-back-init : goal.loop-back-init
loop-back-init c = λ year there lt.
    rw (to_z-of_z c.ranges.std) (elim (cases_lt c.args.first 1) [
      | inr one ↦ onset_after_early c.args.rule.now c.args.std c.args.year year c.args.t.seconds c.args.edge c.requires.lawful
          (omega (arith, signed_arith)) (year_of year there) (omega (arith, signed_arith)) (c.requires.early (omega (arith, c.requires.one)))
      | inl other ↦ onset_after c.args.rule.now c.args.std c.args.year (c.args.year +ℤ pos 1) year c.args.t.seconds c.args.edge c.requires.lawful
          (omega (arith, signed_arith)) (year_of year there) refl (omega (arith, signed_arith)) c.requires.ahead
    ])

-- the year of a candidate
abbrev candidate_year : ℤ → ℕ → ℤ
candidate_year year back = (year +ℤ pos 1) -ℤ pos back

candidate_is : (year : ℤ) (back : ℕ) (from : ℤ) → FitsSigned w32 year → IsBetween (pos 1800) (pos 9998) year → from ≡ pos back → back < 3
    → to_z w32 (of_z w32 (to_z w32 (of_z w32 (to_z w32 (of_z w32 year) +ℤ pos 1)) -ℤ to_z w32 (of_z w32 from))) ≡ candidate_year year back
candidate_is year back from fits is e lt = omega (arith, signed_arith)

onset_at : (rule : DstRule) (std asked is : ℤ) (at : Edge) (m : ℤ) → FitsSigned w32 std → asked ≡ is → m ≡ onset_of rule (to_z w32 (of_z w32 std)) asked at
    → m ≡ onset_of rule std is at
onset_at rule std asked is at m fits e h =
    h ∙ ap (λ k. onset_of rule (to_z w32 (of_z w32 std)) k at) e ∙ ap (λ k. onset_of rule k is at) (to_z-of_z fits)

pub returns-then-candidate-t : goal.returns-then-candidate-t
returns-then-candidate-t c =
    let fits : FitsSigned w64 c.onset-candidate.result.seconds = search rules in
    let fits_t : FitsSigned w64 c.args.t.seconds = search rules in
    let y = candidate_year c.args.year c.loop-back.back in
    let is = onset_at c.args.rule.now c.args.std _ y c.args.edge _ c.ranges.std
    (candidate_is c.args.year c.loop-back.back c.from.result c.ranges.year c.requires.year_in c.from.ensures c.loop-back-test.true)
    c.onset-candidate.ensures in
    latest_is c.args.rule.now c.args.std y c.args.t.seconds _ c.args.edge c.requires.lawful (omega (arith, signed_arith, c.loop-back-test.true))
    (to_z-of_z fits ∙ is) (omega (arith, signed_arith))
    (λ other there lt. rw (to_z-of_z c.ranges.std) at (c.loop-back.invariant other there (omega (arith, signed_arith))))

pub loop-back-preserved : goal.loop-back-preserved
loop-back-preserved c = λ year there lt.
    let fits : FitsSigned w64 c.onset-candidate.result.seconds = search rules in
    let fits_t : FitsSigned w64 c.args.t.seconds = search rules in
    let y = candidate_year c.args.year c.loop-back.back in
    by_lt_z y year
    (λ later. c.loop-back.invariant year there (omega (arith, signed_arith)))
    (λ le.
    let same : year ≡ y = omega (arith, signed_arith) in
    let is = c.onset-candidate.ensures ∙ ap (λ k. onset_of c.args.rule.now (to_z w32 (of_z w32 c.args.std)) k c.args.edge)
    (candidate_is c.args.year c.loop-back.back c.from.result c.ranges.year c.requires.year_in c.from.ensures c.loop-back-test.true ∙ sym same) in
    omega (arith, signed_arith, is))

pub returns : goal.returns
returns c =
    let fits : FitsSigned w64 c.onset.result.seconds = search rules in
    let y = c.args.year -ℤ pos 2 in
    let year : IsBetween (pos 1798) (pos 9999) y = omega (arith, signed_arith) in
    let asked : to_z w32 (of_z w32 (to_z w32 (of_z w32 c.args.year) -ℤ pos 2)) ≡ y = omega (arith, signed_arith) in
    let is = onset_at c.args.rule.now c.args.std _ y c.args.edge _ c.ranges.std asked c.onset.ensures in
    let begun = onset_before c.args.rule.now c.args.std c.args.year y c.args.t.seconds c.args.edge c.requires.lawful (omega (arith, signed_arith))
    (year_of y year) (omega (arith, signed_arith)) c.requires.begun in
    latest_is c.args.rule.now c.args.std y c.args.t.seconds _ c.args.edge c.requires.lawful year (to_z-of_z fits ∙ is) (rw (to_z-of_z fits ∙ is) begun)
    (λ other there lt. rw (to_z-of_z c.ranges.std) at (c.loop-back.invariant other there (omega (arith, signed_arith, c.loop-back-test.false))))
