use Rattle.std.proofs.Common.{rules, ◌≡◌, sym, ap, ◌∙◌, arith, ◌<ℤ◌, ◌≤ℤ◌, int_lt, pos, ◌-ℤ◌, w32, FitsSigned, to_z-of_z}
use Rattle.jiff_core.proofs.SignedLemmas.{signed_arith}
use Rattle.posix_footer.specs.Onset.{onset_of}
use Rattle.vtimezone.proofs.LastBefore.{found_at, lt_is, ge_is, none_early, found_here, none_here, found_last}
use Rattle.vtimezone.proofs.rule_parts.last_onset.Goals as goal

pub returns-then-last-year : goal.returns-then-last-year
returns-then-last-year c =
    let lt : c.last_year-last.result <ℤ c.args.year = omega (arith, signed_arith, c.if-last-year.true) in
    sym (none_early c.args.rule.now c.args.std c.args.edge c.args.year c.args.end.seconds c.last_year-last.result
    c.requires.lawful c.requires.carried c.requires.year c.last_year-last.ensures lt)

pub returns-then-comes_before : goal.returns-then-comes_before
returns-then-comes_before c =
    let fits : FitsSigned w32 c.last_year-last.result = search rules in
    let is : c.onset-candidate.result.seconds ≡ onset_of c.args.rule.now c.args.std c.last_year-last.result c.args.edge =
    simp (to_z-of_z c.ranges.std, to_z-of_z fits) at c.onset-candidate.ensures in
    let le : c.args.year ≤ℤ c.last_year-last.result = omega (arith, signed_arith, c.if-last-year.false) in
    let early : onset_of c.args.rule.now c.args.std c.last_year-last.result c.args.edge <ℤ c.args.end.seconds =
    lt_is _ _ (ap (λ s. int_lt s c.args.end.seconds) (sym is) ∙ sym c.comes_before.ensures ∙ c.if-comes_before.true) in
    ap found_at is
    ∙ sym (found_here c.args.rule.now c.args.std c.args.edge c.args.year c.args.end.seconds c.last_year-last.result
    c.requires.lawful c.requires.carried c.requires.year c.last_year-last.ensures le early)

pub returns-then-year-last : goal.returns-then-year-last
returns-then-year-last c =
    let fits : FitsSigned w32 c.last_year-last.result = search rules in
    let fits_before : FitsSigned w32 (c.last_year-last.result -ℤ pos 1) = omega
    (arith, signed_arith, c.last_year-last.ensures.low, c.last_year-last.ensures.most) in
    let is : c.onset-candidate.result.seconds ≡ onset_of c.args.rule.now c.args.std c.last_year-last.result c.args.edge =
    simp (to_z-of_z c.ranges.std, to_z-of_z fits) at c.onset-candidate.ensures in
    let before : c.onset.result.seconds ≡ onset_of c.args.rule.now c.args.std (c.last_year-last.result -ℤ pos 1) c.args.edge =
    simp (to_z-of_z c.ranges.std, to_z-of_z fits, to_z-of_z fits_before) at c.onset.ensures in
    let more : c.args.year <ℤ c.last_year-last.result = omega (arith, signed_arith, c.if-year-last.true) in
    let late : c.args.end.seconds ≤ℤ onset_of c.args.rule.now c.args.std c.last_year-last.result c.args.edge =
    ge_is _ _ (ap (λ s. int_lt s c.args.end.seconds) (sym is) ∙ sym c.comes_before.ensures ∙ c.if-comes_before.false) in
    ap found_at before
    ∙ sym (found_last c.args.rule.now c.args.std c.args.edge c.args.year c.args.end.seconds c.last_year-last.result
    c.requires.lawful c.requires.carried c.requires.year c.last_year-last.ensures more late)

pub returns : goal.returns
returns c =
    let fits : FitsSigned w32 c.last_year-last.result = search rules in
    let is : c.onset-candidate.result.seconds ≡ onset_of c.args.rule.now c.args.std c.last_year-last.result c.args.edge =
    simp (to_z-of_z c.ranges.std, to_z-of_z fits) at c.onset-candidate.ensures in
    let least : c.args.year ≤ℤ c.last_year-last.result = omega (arith, signed_arith, c.if-last-year.false) in
    let most : c.last_year-last.result ≤ℤ c.args.year = omega (arith, signed_arith, c.if-year-last.false) in
    let same : c.last_year-last.result ≡ c.args.year = omega (arith, signed_arith) in
    let late : c.args.end.seconds ≤ℤ onset_of c.args.rule.now c.args.std c.last_year-last.result c.args.edge =
    ge_is _ _ (ap (λ s. int_lt s c.args.end.seconds) (sym is) ∙ sym c.comes_before.ensures ∙ c.if-comes_before.false) in
    sym (none_here c.args.rule.now c.args.std c.args.edge c.args.year c.args.end.seconds c.last_year-last.result
    c.requires.lawful c.requires.carried c.requires.year c.last_year-last.ensures same late)
