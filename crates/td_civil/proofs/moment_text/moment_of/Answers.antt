use Rattle.std.proofs.Common.{sym, arith, FitsSigned, w64, to_z-of_z}
use Rattle.jiff_core.proofs.SignedLemmas.{signed_arith}
use Rattle.td_civil.proofs.lemmas.Spelled.{found_spells, none_spells}
use Rattle.td_civil.proofs.moment_text.moment_of.Goals as goal

pub returns-in-Some-clause-found : goal.returns-in-Some-clause-found
returns-in-Some-clause-found c =
    let fits : FitsSigned w64 c.in-Some.seconds = omega (arith, signed_arith, c.in-Some.ensures.bound) in
    rw (to_z-of_z fits) (found_spells _ _ (sym c.in-Some.ensures.value))

pub returns-in-None-clause-fault : goal.returns-in-None-clause-fault
returns-in-None-clause-fault c = none_spells _ (sym c.in-None.ensures.value)
