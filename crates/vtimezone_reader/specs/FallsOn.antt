-- Whether a yearly rule falls on a day, as a test: `Falls` of `recurrence`.
use Rattle.std.specs.Prelude.{ℕ, ◌+◌, ◌-◌, ◌/◌, ◌==◌, nat_le, ℤ, pos, negsuc, ◌+ℤ◌, unsigned_abs}
use Rattle.std.specs.Prelude.{Bool, ◌&&◌}
use Rattle.jiff_core.specs.Calendar.{days_in_month, days_in_year, day_of_year}
use Rattle.td_civil.specs.Calendar.{Civil, date_of}
use Rattle.posix_footer.specs.Onset.{weekday_from_sunday}
use Rattle.recurrence.specs.declared.rule_types.Form.{Form}
use Rattle.recurrence.specs.declared.rule_types.Form.TheVariants as form

-- the date of a day number, of the years 0 to 9999: 1970 begins 719528 days after the year 0
abbrev pub date_of_day : ℤ → Civil
date_of_day day = date_of (unsigned_abs (day +ℤ pos 719528))

-- among the nth seven days of a month of that many days, from its start or from its end
abbrev pub is_nth : ℤ → ℕ → ℕ → Bool
is_nth (pos n) length day = (day - 1) / 7 + 1 == n
is_nth (negsuc n) length day = (length - day) / 7 == n

-- among the seven days of a year of that many days that begin with a day
abbrev pub is_among_days : ℤ → ℕ → ℕ → Bool
is_among_days (pos n) length day = nat_le n day && nat_le day (n + 6)
is_among_days (negsuc n) length day = nat_le length (day + n) && nat_le (day + n) (length + 6)

abbrev pub is_weekday : ℕ → ℤ → Bool
is_weekday weekday day = weekday_from_sunday day == weekday

-- whether a rule's days have the date, whose day number follows it
abbrev pub has_month_day : Form → Civil → ℤ → Bool
has_month_day (form.NthDay month nth weekday) c day =
    c.month == month && is_weekday weekday day
    && is_nth nth (days_in_month (pos c.year) c.month) c.day
has_month_day (form.MonthDays month first weekday) c day =
    c.month == month && is_weekday weekday day && nat_le first c.day && nat_le c.day (first + 6)
has_month_day (form.YearDays first weekday) c day =
    is_weekday weekday day
    && is_among_days first (days_in_year (pos c.year)) (day_of_year (pos c.year) c.month c.day)
has_month_day (form.FixedDate month date) c day = c.month == month && c.day == date

-- whether the rule falls on a day of the years 0 to 9999
unfoldable pub falls_on : Form → ℤ → Bool
falls_on rule day = has_month_day rule (date_of_day day) day
