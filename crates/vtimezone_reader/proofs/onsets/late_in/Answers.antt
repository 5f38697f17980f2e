use Rattle.std.proofs.Common.{arith, FitsSigned, w32, to_z-of_z}
use Rattle.jiff_core.proofs.SignedLemmas.{signed_arith}
use Rattle.vtimezone_reader.proofs.RuleOnsets.{late_kept}
use Rattle.vtimezone_reader.proofs.onsets.late_in.Goals as goal

pub returns : goal.returns
returns c =
    let within = c.requires.sound.from in
    let offset : FitsSigned w32 c.args.part.now.from = omega (arith, signed_arith, within) in
    let year : FitsSigned w32 c.args.year = omega (arith, signed_arith, c.requires.year) in
    let this = simp (to_z-of_z offset, to_z-of_z year) at c.onset_in.ensures in
    late_kept c.args.part.now c.args.rule.now c.args.year c.onset_in.result.seconds c.args.last.seconds c.within.result c.requires.sound c.requires.rule
    (omega (arith, signed_arith, c.requires.year)) (omega (arith, signed_arith, c.requires.year)) this c.requires.last c.within.ensures
