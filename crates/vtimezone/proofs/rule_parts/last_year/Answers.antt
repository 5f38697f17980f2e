use Rattle.std.proofs.Common.{rules, ◌≡◌, arith, pos, neg_ℤ, ◌≤ℤ◌, w32, FitsSigned, to_z-of_z}
use Rattle.std.specs.Int.{int_min}
use Rattle.jiff_core.proofs.SignedLemmas.{signed_arith}
use Rattle.vtimezone.proofs.LastBefore.{last_year_is, min_cases}
use Rattle.vtimezone.proofs.rule_parts.last_year.Goals as goal

pub returns : goal.returns
returns c =
    let fits : FitsSigned w32 c.min.result = search rules in
    let fits_year : FitsSigned w32 c.year_of.result = search rules in
    let is : c.min.result ≡ int_min c.year_of.result (pos 9998) = simp (to_z-of_z fits_year) at c.min.ensures.value in
    let low : neg_ℤ (pos 9999) ≤ℤ c.year_of.result = omega (arith, signed_arith, c.year_of.ensures.exact) in
    let cases = min_cases c.year_of.result (pos 9998) c.min.result is in
    rw (to_z-of_z fits) (last_year_is c.args.end.seconds c.year_of.result c.min.result low c.requires c.year_of.ensures.within cases.1 cases.2 cases.0)
