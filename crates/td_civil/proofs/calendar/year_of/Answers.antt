use Rattle.std.proofs.Common.{◌∙◌, ap, sym, arith, subst, ℤ, pos, FitsSigned, w32, w64, to_z-of_z}
use Rattle.jiff_core.proofs.SignedLemmas.{signed_arith}
use Rattle.td_civil.specs.Calendar.{IsInYear}
use Rattle.td_civil.specs.Stamp.{Stamp}
use Rattle.td_civil.proofs.lemmas.Shown.{bounds_text, shown_year, year_of_fields}
use Rattle.td_civil.proofs.calendar.year_of.Goals as goal

pub overflow_cast-result : goal.overflow_cast-result
overflow_cast-result c =
    let fits : FitsSigned w64 c.args.m.seconds = omega (arith, signed_arith, c.requires) in
    let shown = simp to_z-of_z at c.at.ensures in
    let year = year_of_fields c.args.m.seconds c.result.inside.year c.at.result (bounds_text _ c.requires) (ap (λ (s : Stamp). s.year) c.result.view_is) shown
    in
    let most = year.0 in
    omega (arith, signed_arith, most)

pub returns-clause-exact : goal.returns-clause-exact
returns-clause-exact c =
    let fits : FitsSigned w64 c.args.m.seconds = omega (arith, signed_arith, c.requires) in
    let shown = simp to_z-of_z at c.at.ensures in
    let year = year_of_fields c.args.m.seconds c.result.inside.year c.at.result (bounds_text _ c.requires) (ap (λ (s : Stamp). s.year) c.result.view_is) shown
    in
    let most = year.0 in
    let narrow : FitsSigned w32 (pos c.result.inside.year) = omega (arith, signed_arith, most) in
    to_z-of_z narrow ∙ ap pos year.1

pub returns-clause-within : goal.returns-clause-within
returns-clause-within c =
    let P : ℤ → Type 0 = λ y. IsInYear y c.args.m.seconds in
    subst P (sym (returns-clause-exact c)) (shown_year c.args.m.seconds (bounds_text _ c.requires))
