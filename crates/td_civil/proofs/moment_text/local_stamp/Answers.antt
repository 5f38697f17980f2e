use Rattle.std.proofs.Common.{arith, ◌+ℤ◌, FitsSigned, w32, w64, to_z-of_z}
use Rattle.jiff_core.proofs.SignedLemmas.{signed_arith}
use Rattle.td_civil.proofs.lemmas.Shown.{made_local_text, made_shows, local_bounds_text}
use Rattle.td_civil.proofs.moment_text.local_stamp.Goals as goal

pub returns-clause-shows : goal.returns-clause-shows
returns-clause-shows c =
    let narrow : FitsSigned w32 c.args.offset = c.ranges.offset in
    let wide : FitsSigned w64 c.args.offset = omega (arith, signed_arith, c.requires.offset) in
    let fits : FitsSigned w64 c.args.m.seconds = omega (arith, signed_arith, c.requires.moment) in
    let both : FitsSigned w64 (c.args.m.seconds +ℤ c.args.offset) = omega (arith, signed_arith, c.requires.moment, c.requires.offset) in
    let shown = simp to_z-of_z at c.at.ensures in
    made_shows c.basic_spelling.result c.at.result (c.args.m.seconds +ℤ c.args.offset) (local_bounds_text _ _ c.requires.moment c.requires.offset)
    c.basic_spelling.ensures shown

pub returns-clause-exact : goal.returns-clause-exact
returns-clause-exact c =
    let narrow : FitsSigned w32 c.args.offset = c.ranges.offset in
    let wide : FitsSigned w64 c.args.offset = omega (arith, signed_arith, c.requires.offset) in
    let fits : FitsSigned w64 c.args.m.seconds = omega (arith, signed_arith, c.requires.moment) in
    let both : FitsSigned w64 (c.args.m.seconds +ℤ c.args.offset) = omega (arith, signed_arith, c.requires.moment, c.requires.offset) in
    let shown = simp to_z-of_z at c.at.ensures in
    made_local_text c.basic_spelling.result c.at.result c.args.m.seconds c.args.offset c.basic_spelling.ensures shown
