use Rattle.std.proofs.Common.{append_assoc, to_z-of_z}
use Rattle.jcal.proofs.FormFits.{month_fits, day_fits, nth_fits, first_fits}
use Rattle.jcal.proofs.recurs.put_form.Goals as goal

pub returns-in_ok-put_number-in-NthDay-clause-tokens : goal.returns-in_ok-put_number-in-NthDay-clause-tokens
returns-in_ok-put_number-in-NthDay-clause-tokens c =
    let valid = rw c.in-NthDay.is at c.requires in
    rw (
      c.in_ok-put_number-in-NthDay.ensures.tokens,
      c.in_ok-put_nth_weekday-in-NthDay.ensures.tokens,
      c.from.ensures,
      c.in-NthDay.is,
      to_z-of_z (month_fits c.in-NthDay.month valid.0),
      to_z-of_z (nth_fits c.in-NthDay.nth valid.1),
    )
    (simp append_assoc)

pub returns-in_ok-put_seven-in-MonthDays-clause-tokens : goal.returns-in_ok-put_seven-in-MonthDays-clause-tokens
returns-in_ok-put_seven-in-MonthDays-clause-tokens c =
    let valid = rw c.in-MonthDays.is at c.requires in
    rw (
      c.in_ok-put_seven-in-MonthDays.ensures.tokens,
      c.in_ok-put_number-in-MonthDays.ensures.tokens,
      c.in_ok-put_weekday-in-MonthDays.ensures.tokens,
      c.from-in-MonthDays-2.ensures,
      c.from-in-MonthDays.ensures,
      c.in-MonthDays.is,
      to_z-of_z (month_fits c.in-MonthDays.month valid.0),
      to_z-of_z (day_fits c.in-MonthDays.first 6 c.in-MonthDays.month valid.1.1),
    )
    (simp append_assoc)

pub returns-in_ok-put_seven-in-YearDays-clause-tokens : goal.returns-in_ok-put_seven-in-YearDays-clause-tokens
returns-in_ok-put_seven-in-YearDays-clause-tokens c =
    let valid = rw c.in-YearDays.is at c.requires in
    rw (
      c.in_ok-put_seven-in-YearDays.ensures.tokens,
      c.in_ok-put_weekday-in-YearDays.ensures.tokens,
      c.in-YearDays.is,
      to_z-of_z (first_fits c.in-YearDays.first valid.0),
    )
    (simp append_assoc)
