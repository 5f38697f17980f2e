use Rattle.std.proofs.Common.{refl, arith, pos, ◌+ℤ◌}
use Rattle.jiff_core.proofs.SignedLemmas.{signed_arith}
use Rattle.posix_footer.proofs.lemmas.StateLemmas.{onset_before, onset_after}
use Rattle.posix_footer.proofs.laws.far_years_are_quiet.Goals as goal

pub returns-clause-before : goal.returns-clause-before
returns-clause-before c rule std year other t edge h here there in_year le =
    onset_before rule std year other t edge h here there le in_year.0

pub returns-clause-after : goal.returns-clause-after
returns-clause-after c rule std year other t edge h here there in_year le =
    onset_after rule std year (year +ℤ pos 1) other t edge h (omega (arith, signed_arith)) there refl (omega (arith, signed_arith)) in_year.1
