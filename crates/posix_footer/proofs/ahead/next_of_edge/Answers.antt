use Rattle.std.proofs.Common.{inl, inr, ◌≡◌, ◌∙◌, ap, sym, refl, rules, arith, ℕ, ℤ, pos, ◌+ℤ◌, ◌-ℤ◌, ◌<◌, to_z, of_z, to_z-of_z, w32, w64, FitsSigned}
use Rattle.jiff_core.proofs.SignedLemmas.{signed_arith}
use Rattle.jiff_core.specs.Calendar.{IsBetween}
use Rattle.std.proofs.lemmas.Bool.{cases_lt}
use Rattle.std.proofs.lemmas.Int.{by_lt_z}
use Rattle.posix_footer.specs.Onset.{onset_of}
use Rattle.posix_footer.proofs.lemmas.StateLemmas.{onset_after, onset_before, onset_before_late, year_of}
use Rattle.posix_footer.proofs.lemmas.NextLemmas.{passed_onset}
use Rattle.posix_footer.proofs.ahead.next_of_edge.Goals as goal

pub loop-ahead-init : goal.loop-ahead-init
loop-ahead-init c = λ year there lt.
    rw (to_z-of_z c.ranges.std) (elim (cases_lt c.args.first 1) [
      | inr one ↦ onset_before_late c.args.rule.now c.args.std c.args.year year c.args.t.seconds c.args.edge c.requires.lawful
          (year_of year there) (omega (arith, signed_arith)) (c.requires.late (omega (arith, c.requires.one)))
      | inl other ↦ onset_before c.args.rule.now c.args.std c.args.year year c.args.t.seconds c.args.edge c.requires.lawful
          (omega (arith, signed_arith)) (year_of year there) (omega (arith, signed_arith)) c.requires.begun
    ])

-- the year of a candidate
abbrev candidate_year : ℤ → ℕ → ℤ
candidate_year year ahead = (year -ℤ pos 1) +ℤ pos ahead

candidate_is : (year : ℤ) (ahead : ℕ) (from : ℤ) → FitsSigned w32 year → IsBetween (pos 1800) (pos 9998) year → from ≡ pos ahead → ahead < 3
    → to_z w32 (of_z w32 (to_z w32 (of_z w32 (to_z w32 (of_z w32 year) -ℤ pos 1)) +ℤ to_z w32 (of_z w32 from))) ≡ candidate_year year ahead
candidate_is year ahead from fits is e lt = omega (arith, signed_arith)

pub returns-then-t-candidate : goal.returns-then-t-candidate
returns-then-t-candidate c =
    let fits : FitsSigned w64 c.onset_in-candidate.result.at.seconds = search rules in
    let fits_t : FitsSigned w64 c.args.t.seconds = search rules in
    let y = candidate_year c.args.year c.loop-ahead.ahead in
    let year : c.onset_in-candidate.result.year ≡ y = c.onset_in-candidate.ensures.year ∙
    candidate_is c.args.year c.loop-ahead.ahead c.from.result c.ranges.year c.requires.year_in c.from.ensures c.loop-ahead-test.true in
    record {
      onset = passed_onset c.args.rule.now c.args.std c.args.edge c.onset_in-candidate.result c.ranges.std c.onset_in-candidate.ensures.onset;
      after = omega (arith, signed_arith);
      before = λ other there lt. rw (to_z-of_z c.ranges.std) at (c.loop-ahead.invariant other there (omega (arith, signed_arith, year)));
    }

pub loop-ahead-preserved : goal.loop-ahead-preserved
loop-ahead-preserved c = λ year there lt.
    let fits : FitsSigned w64 c.onset_in-candidate.result.at.seconds = search rules in
    let fits_t : FitsSigned w64 c.args.t.seconds = search rules in
    let y = candidate_year c.args.year c.loop-ahead.ahead in
    by_lt_z year y
    (λ earlier. c.loop-ahead.invariant year there (omega (arith, signed_arith)))
    (λ le.
    let same : year ≡ y = omega (arith, signed_arith) in
    let asked : c.onset_in-candidate.result.year ≡ year = c.onset_in-candidate.ensures.year ∙
    candidate_is c.args.year c.loop-ahead.ahead c.from.result c.ranges.year c.requires.year_in c.from.ensures c.loop-ahead-test.true ∙ sym same in
    let is = c.onset_in-candidate.ensures.onset.onset_is ∙ ap (λ k. onset_of c.args.rule.now (to_z w32 (of_z w32 c.args.std)) k c.args.edge) asked in
    omega (arith, signed_arith, is))

pub returns-else-year-lt9998 : goal.returns-else-year-lt9998
returns-else-year-lt9998 c = λ year there.
    rw (to_z-of_z c.ranges.std) at (c.loop-ahead.invariant year there (omega (arith, signed_arith, c.loop-ahead-test.false, c.if-year-lt9998.false)))

pub returns-then-year-lt9998 : goal.returns-then-year-lt9998
returns-then-year-lt9998 c =
    let fits : FitsSigned w64 c.onset_in.result.at.seconds = search rules in
    let y = c.args.year +ℤ pos 2 in
    let there : IsBetween (pos 1798) (pos 9999) y = (omega (arith, signed_arith), omega (arith, signed_arith, c.if-year-lt9998.true)) in
    let asked : to_z w32 (of_z w32 (to_z w32 (of_z w32 c.args.year) +ℤ pos 2)) ≡ y = omega (arith, signed_arith) in
    let year : c.onset_in.result.year ≡ y = c.onset_in.ensures.year ∙ asked in
    let onset = passed_onset c.args.rule.now c.args.std c.args.edge c.onset_in.result c.ranges.std c.onset_in.ensures.onset in
    let is : c.onset_in.result.at.seconds ≡ onset_of c.args.rule.now c.args.std y c.args.edge =
    onset.onset_is ∙ ap (λ k. onset_of c.args.rule.now c.args.std k c.args.edge) year in
    let late = onset_after c.args.rule.now c.args.std c.args.year (c.args.year +ℤ pos 1) y c.args.t.seconds c.args.edge c.requires.lawful
    (omega (arith, signed_arith)) (year_of y there) refl (omega (arith, signed_arith)) c.requires.ahead in
    record {
      onset = onset;
      after = rw is late;
      before = λ other there lt.
          rw (to_z-of_z c.ranges.std) at (c.loop-ahead.invariant other there (omega (arith, signed_arith, c.loop-ahead-test.false, year)));
    }
