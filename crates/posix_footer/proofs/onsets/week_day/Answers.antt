use Rattle.std.proofs.Common.{◌∙◌, ap, arith, to_z-of_z}
use Rattle.jiff_core.proofs.SignedLemmas.{signed_arith}
use Rattle.jiff_core.specs.Date.{epoch_day}
use Rattle.posix_footer.specs.Onset.{month_day}
use Rattle.posix_footer.proofs.lemmas.OnsetLemmas.{epoch_day_of}
use Rattle.posix_footer.proofs.onsets.week_day.Goals as goal

pub returns-clause-value : goal.returns-clause-value
returns-clause-value c =
    let number = c.to_unix_epoch_day.ensures.value ∙ ap epoch_day c.to_plain.ensures in
    let is = simp (to_z-of_z c.ranges.year) at c.date_of_week-day.ensures in
    let value = number ∙ epoch_day_of c.date_of_week-day.result c.args.year c.args.month (month_day c.args.year c.args.month c.args.week c.args.weekday) is in
    omega (arith, signed_arith, value, c.to_unix_epoch_day.ensures.bound, c.from.ensures)
