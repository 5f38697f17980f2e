use Rattle.std.proofs.Common.{◌≡◌, ◌∙◌, arith, pos, ◌+ℤ◌, to_z, of_z, w32}
use Rattle.jiff_core.proofs.SignedLemmas.{signed_arith}
use Rattle.posix_footer.proofs.lemmas.NextLemmas.{next_year, none_later, passed_onset}
use Rattle.posix_footer.proofs.ahead.year_after.Goals as goal

pub returns-then-come-lt9999 : goal.returns-then-come-lt9999
returns-then-come-lt9999 c =
    let within = c.requires.onset.year_in in
    let asked : to_z w32 (of_z w32 (to_z w32 (of_z w32 c.args.come.year) +ℤ pos 1)) ≡ c.args.come.year +ℤ pos 1 =
    omega (arith, signed_arith, within.0, within.1, c.if-come-lt9999.true) in
    next_year c.args.rule.now c.args.std c.args.edge c.args.come c.onset_in.result c.requires.lawful c.requires.onset
    (passed_onset c.args.rule.now c.args.std c.args.edge c.onset_in.result c.ranges.std c.onset_in.ensures.onset) (c.onset_in.ensures.year ∙ asked)

pub returns-else-come-lt9999 : goal.returns-else-come-lt9999
returns-else-come-lt9999 c = λ year there.
    let within = c.requires.onset.year_in in
    none_later c.args.rule.now c.args.std c.args.edge c.args.come year c.requires.lawful c.requires.onset there
    (omega (arith, signed_arith, within.0, within.1, c.if-come-lt9999.false))
