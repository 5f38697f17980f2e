use Rattle.std.proofs.Common.{◌≡◌, sym, ◌∙◌, rules, arith, pos, ◌+ℤ◌, to_z, of_z, w32, w64, FitsSigned, to_z-of_z}
use Rattle.jiff_core.proofs.SignedLemmas.{signed_arith}
use Rattle.td_civil.proofs.lemmas.Counting.{date_of_number}
use Rattle.td_civil.proofs.calendar.date_of_day.Goals as goal

pub returns-clause-number : goal.returns-clause-number
returns-clause-number c =
    let fits : FitsSigned w64 c.args.number = search rules in
    let sum : FitsSigned w64 (c.args.number +ℤ pos 719528) = omega (arith, signed_arith, c.requires) in
    let shown = simp to_z-of_z at c.date_after-date.ensures in
    let number = date_of_number c.args.number (omega (arith, signed_arith, c.requires)) (omega (arith, signed_arith, c.requires)) in
    let year_in = c.date_after-date.result.year_in in
    let year : to_z w32 (of_z w32 c.from.result) ≡ c.date_after-date.result.year = omega (arith, signed_arith, c.from.ensures, year_in) in
    number ∙ sym (rw (year, shown.year, shown.month, shown.day))
