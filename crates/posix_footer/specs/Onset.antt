-- The moment at which a change of a year comes, from its day and its time.
use Rattle.std.specs.Prelude.{◌≡◌, ◌≤◌, ℕ, zero, suc, ◌+◌, ◌-◌, ◌*◌, ◌%◌, min, ◌==◌, ◌&&◌, nat_le}
use Rattle.std.specs.Prelude.{if◌then◌else◌, ℤ, pos, ◌+ℤ◌, ◌-ℤ◌, ◌*ℤ◌}
use Rattle.jiff_core.specs.Calendar.{is_leap_year, days_in_month, days_of_months, days_from_civil}
use Rattle.jiff_core.specs.Calendar.{weekday_number}
use Rattle.posix_footer.specs.declared.rule_types.DayForm.{DayForm}
use Rattle.posix_footer.specs.declared.rule_types.DayForm.TheVariants as day
use Rattle.posix_footer.specs.declared.rule_types.Edge.{Edge}
use Rattle.posix_footer.specs.declared.rule_types.Edge.TheVariants as edge
use Rattle.posix_footer.specs.declared.rule_types.Date.{Date}
use Rattle.posix_footer.specs.declared.rule_types.DstRule.{DstRule}

-- the weekday of a day number, where Sunday is 0
abbrev pub weekday_from_sunday : ℤ → ℕ
weekday_from_sunday day = (weekday_number day + 1) % 7

-- the last of the first n days of a month that falls on the weekday, or 0 if none does
unfoldable pub last_weekday : ℤ → ℕ → ℕ → ℕ → ℕ
last_weekday year month weekday zero = 0
last_weekday year month weekday (suc n) =
    if weekday_from_sunday (days_from_civil year month (suc n)) == weekday then suc n
    else last_weekday year month weekday n

-- the day of the month of `Mm.w.d`. Each seven days from the first of the month on have the weekday
-- once, so that its last day within the first w such weeks is the wth, and within five, which reach
-- past any month's end, the last
abbrev pub month_day : ℤ → ℕ → ℕ → ℕ → ℕ
month_day year month week weekday =
    last_weekday year month weekday (min (7 * week) (days_in_month year month))

-- how many days after 1 January the nth day comes that is not 29 February
abbrev pub days_before : ℤ → ℕ → ℕ
days_before year n = if is_leap_year year && nat_le 60 n then n else n - 1

-- the day number of a day form in a year, from 1970-01-01 (POSIX, section 8.3)
abbrev pub day_number : DayForm → ℤ → ℤ
day_number (day.Julian n) year = days_from_civil year 1 1 +ℤ pos (days_before year n)
day_number (day.YearDay n) year = days_from_civil year 1 1 +ℤ pos n
day_number (day.Week month week weekday) year =
    days_from_civil year month (month_day year month week weekday)

-- The days that a form can name in a year: one, or seven one after another, of which it names that
-- with its weekday. The place of the first of them, where 1 January is 0, and how many follow it
abbrev pub first_place : DayForm → ℤ → ℕ
first_place (day.Julian n) year = days_before year n
first_place (day.YearDay n) year = n
first_place (day.Week month week weekday) year =
    days_of_months year (month - 1) + min (7 * week) (days_in_month year month) - 7

abbrev pub more_places : DayForm → ℕ
more_places (day.Week month week weekday) = 6
more_places other = 0

-- where a form's day stands among those that it can name
pub record IsDayNamed (form : DayForm) (year : ℤ) : Type 0 where
  pub after : ℕ
  pub among : after ≤ more_places form
  pub number :
      day_number form year ≡ days_from_civil year 1 1 +ℤ pos (first_place form year + after)

-- the moment of a date's day and time in a year, by clocks that are so many seconds east of UTC
abbrev pub moment_on : Date → ℤ → ℤ → ℤ
moment_on date offset year = ((day_number date.day year *ℤ pos 86400) +ℤ date.time) -ℤ offset

-- the moment at which daylight saving time begins in a year, by standard time, or ends, by daylight
-- saving time
abbrev pub onset_of : DstRule → ℤ → ℤ → Edge → ℤ
onset_of rule std year edge.Start = moment_on rule.start std year
onset_of rule std year edge.End = moment_on rule.end rule.dst.offset year
