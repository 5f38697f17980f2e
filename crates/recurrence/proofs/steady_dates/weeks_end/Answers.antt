use Rattle.std.proofs.Common.{arith}
use Rattle.jiff_core.proofs.SignedLemmas.{signed_casts}
use Rattle.jiff_core.proofs.CalendarLemmas.{days_in_month_bounds, days_of_months_more, days_of_months_mono, days_of_months_all, days_in_year_bounds}
use Rattle.recurrence.proofs.steady_dates.weeks_end.Goals as goal

pub returns-clause-bound : goal.returns-clause-bound
returns-clause-bound c =
    let d = c.date-first.result in
    let long = days_in_month_bounds d.year d.month in
    let more = days_of_months_more d.year d.month d.month_in.0 in
    let most = days_of_months_mono d.year d.month 12 d.month_in.1 in
    let all = days_of_months_all d.year in
    let year = days_in_year_bounds d.year in (
      omega (arith, signed_casts, c.day_of_year.ensures, c.days_in_month-length.ensures, c.min.ensures, long),
      omega
          (arith, signed_casts, c.day_of_year.ensures, c.days_in_month-length.ensures, c.min.ensures, long, more, most, all, year),
    )
