use Rattle.std.proofs.Common.{◌≡◌, rules, arith, ◌+ℤ◌, FitsSigned, w32, w64, to_z-of_z}
use Rattle.jiff_core.proofs.SignedLemmas.{signed_arith}
use Rattle.jiff_core.specs.Calendar.{days_from_civil}
use Rattle.vtimezone_reader.specs.Onsets.{day_shown}
use Rattle.vtimezone_reader.proofs.YearShown.{shown_year}
use Rattle.vtimezone_reader.proofs.onsets.year_shown.Goals as goal

pub returns : goal.returns
returns c =
    let there = c.date_of_day.ensures.there in
    let offset : FitsSigned w32 c.args.offset = search rules in
    let moment : FitsSigned w64 c.args.t.seconds = omega (arith, signed_arith, c.requires.t) in
    let year : FitsSigned w32 c.date_of_day.result.year = search rules in
    let result : FitsSigned w32 c.max.result = search rules in
    let number = c.date_of_day.ensures.number in
    let sum : FitsSigned w64 (c.args.t.seconds +ℤ c.args.offset) = omega (arith, signed_arith, c.requires.t, c.requires.offset) in
    let wide = simp (to_z-of_z offset, to_z-of_z moment) at c.from.ensures in
    let quotient = simp (to_z-of_z moment, to_z-of_z sum, wide) at c.div_euclid-day.ensures in
    let shown : day_shown c.args.offset c.args.t.seconds ≡ days_from_civil c.date_of_day.result.year c.date_of_day.result.month c.date_of_day.result.day =
    search (rules, quotient, number) in
    let max = simp (to_z-of_z year) at c.max.ensures.value in
    rw (to_z-of_z result)
    (shown_year c.args.offset c.args.t.seconds c.date_of_day.result.year c.max.result c.date_of_day.result.month c.date_of_day.result.day there shown max)
