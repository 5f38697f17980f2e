use Rattle.std.proofs.Common.{rules, arith, FitsSigned, w32, to_z-of_z}
use Rattle.jiff_core.proofs.SignedLemmas.{signed_arith}
use Rattle.posix_footer.proofs.lemmas.YearLemmas.{year_in_range}
use Rattle.posix_footer.proofs.state_at.utc_year.Goals as goal

pub returns-clause-year_in : goal.returns-clause-year_in
returns-clause-year_in c =
    let fits : FitsSigned w32 c.year_of.result = search rules in
    let within = c.year_of.ensures.within in
    rw (to_z-of_z fits) (year_in_range c.year_of.result c.args.t.seconds (omega (arith, signed_arith, c.year_of.ensures.exact)) c.requires within.0 within.1)
