use Rattle.std.proofs.Common.{arith, FitsSigned, w64, to_z-of_z}
use Rattle.jiff_core.proofs.SignedLemmas.{signed_arith}
use Rattle.td_civil.proofs.lemmas.Shown.{made_text, made_spells, bounds_text}
use Rattle.td_civil.proofs.moment_text.utc_text.Goals as goal

pub returns-clause-spells : goal.returns-clause-spells
returns-clause-spells c =
    let fits : FitsSigned w64 c.args.m.seconds = omega (arith, signed_arith, c.requires) in
    let shown = simp to_z-of_z at c.at.ensures in
    made_spells c.spelling.result c.at.result c.args.m.seconds (bounds_text _ c.requires) c.spelling.ensures shown

pub returns-clause-exact : goal.returns-clause-exact
returns-clause-exact c =
    let fits : FitsSigned w64 c.args.m.seconds = omega (arith, signed_arith, c.requires) in
    let shown = simp to_z-of_z at c.at.ensures in
    made_text c.spelling.result c.at.result c.args.m.seconds c.spelling.ensures shown
