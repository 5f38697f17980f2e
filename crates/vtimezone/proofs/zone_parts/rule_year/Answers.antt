use Rattle.std.proofs.Common.{◌∙◌, ap, arith, pos, ◌+ℤ◌, ◌<ℤ◌, w32, FitsSigned, to_z-of_z}
use Rattle.jiff_core.proofs.SignedLemmas.{signed_arith}
use Rattle.td_civil.specs.Calendar.{stamp_of}
use Rattle.vtimezone.proofs.lemmas.ZoneRange.{rule_year_is}
use Rattle.vtimezone.proofs.zone_parts.rule_year.Goals as goal

pub year_of-requires : goal.year_of-requires
year_of-requires c =
    let high : c.last_moment.result.seconds <ℤ pos 253370764800 = c.last_moment.ensures.meaning.1 in
    (c.last_moment.ensures.meaning.0, omega (arith, signed_arith))

pub overflow_add-result : goal.overflow_add-result
overflow_add-result c =
    let year = rule_year_is c.args.zone.now c.args.from.seconds c.year_of.result c.last_moment.ensures.no_fault c.requires
    (c.year_of.ensures.exact ∙ ap (λ m. pos (stamp_of m).year) c.last_moment.ensures.moment) in
    omega (arith, signed_arith, year.low, year.high)

pub returns : goal.returns
returns c =
    let year = rule_year_is c.args.zone.now c.args.from.seconds c.year_of.result c.last_moment.ensures.no_fault c.requires
    (c.year_of.ensures.exact ∙ ap (λ m. pos (stamp_of m).year) c.last_moment.ensures.moment) in
    let fits : FitsSigned w32 c.year_of.result = omega (arith, signed_arith, year.low, year.high) in
    let fits_next : FitsSigned w32 (c.year_of.result +ℤ pos 1) = omega (arith, signed_arith, year.low, year.high) in
    simp (to_z-of_z fits, to_z-of_z fits_next) (record { year = year.is; bound = (year.low, year.high); after = year.after })
