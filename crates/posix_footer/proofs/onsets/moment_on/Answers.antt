use Rattle.std.proofs.Common.{◌≡◌, ◌∙◌, ap, arith, to_z, of_z, w16, w32}
use Rattle.jiff_core.proofs.SignedLemmas.{signed_arith}
use Rattle.posix_footer.specs.Onset.{day_number}
use Rattle.posix_footer.proofs.onsets.moment_on.Goals as goal

pub returns : goal.returns
returns c =
    let year : to_z w16 (of_z w16 (to_z w32 (of_z w32 c.args.year))) ≡ c.args.year = omega (arith, signed_arith) in
    let day = c.day_number-day.ensures.value ∙ ap (day_number c.args.date.day) year in
    let time = c.requires.date.time in
    omega (arith, signed_arith, day, c.day_number-day.ensures.bound)
