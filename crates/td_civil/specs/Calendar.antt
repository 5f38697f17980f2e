-- The date and the time of day of a moment, by counting off whole years, whole months and whole
-- days; and its texts.
use Rattle.std.specs.Prelude.{ℕ, zero, suc, ◌+◌, ◌-◌, ◌*◌, ◌/◌, ◌%◌, nat_lt, if◌then◌else◌, ℤ, pos}
use Rattle.std.specs.Prelude.{unsigned_abs, ◌+ℤ◌, ◌*ℤ◌, ◌≤ℤ◌, ◌<ℤ◌, List}
use Rattle.std.specs.Int.{IsInRange}
use Rattle.jiff_core.specs.Calendar.{days_in_year, days_in_month, days_from_civil, IsBetween}
use Rattle.td_civil.specs.Stamp.{Stamp, spelling, basic_spelling}

-- year, month and day
pub record Civil : Type 0 where
  pub year : ℕ
  pub month : ℕ
  pub day : ℕ

-- the date so many days after the first of the month, counting off at most `more` whole months
unfoldable pub month_after : ℕ → ℕ → ℕ → ℕ → Civil
month_after zero year month days = record { year = year; month = month; day = days + 1 }
month_after (suc more) year month days =
    if nat_lt days (days_in_month (pos year) month)
    then record { year = year; month = month; day = days + 1 }
    else month_after more year (month + 1) (days - days_in_month (pos year) month)

-- the date so many days after 1 January of the year, counting off at most `more` whole years
unfoldable pub year_after : ℕ → ℕ → ℕ → Civil
year_after zero year days = month_after 11 year 1 days
year_after (suc more) year days =
    if nat_lt days (days_in_year (pos year)) then month_after 11 year 1 days
    else year_after more (year + 1) (days - days_in_year (pos year))

-- the date so many days after 1 January of the year 0
abbrev pub date_of : ℕ → Civil
date_of days = year_after 9999 0 days

-- what UTC shows so many seconds after the beginning of the year 0
abbrev pub stamp_after : ℕ → Stamp
stamp_after seconds =
    let d = date_of (seconds / 86400) in
    record {
      year = d.year;
      month = d.month;
      day = d.day;
      hour = seconds % 86400 / 3600;
      minute = seconds % 3600 / 60;
      second = seconds % 60;
    }

-- the seconds from the beginning of the year 0, which is 719528 days before 1970
abbrev pub elapsed : ℤ → ℕ
elapsed m = unsigned_abs (m +ℤ pos (719528 * 86400))

-- what UTC shows at a moment of the years 0 to 9999
abbrev pub stamp_of : ℤ → Stamp
stamp_of m = stamp_after (elapsed m)

-- the moment lies from the beginning of the year to before that of the next
abbrev pub IsInYear : ℤ → ℤ → Type 0
IsInYear year m =
    ((days_from_civil year 1 1 *ℤ pos 86400) ≤ℤ m)
    × (m <ℤ (days_from_civil (year +ℤ pos 1) 1 1 *ℤ pos 86400))

-- there is such a date, in the years 1798 to 9999
abbrev pub HasDay : ℤ → ℕ → ℕ → Type 0
HasDay year month day =
    IsBetween (pos 1798) (pos 9999) year × IsInRange 1 12 month
    × IsInRange 1 (days_in_month year month) day

-- YYYY-MM-DDTHH:MM:SSZ of a moment
unfoldable pub text_of : ℤ → List ℕ
text_of m = spelling (stamp_of m)

-- YYYYMMDDTHHMMSS of a moment, as clocks show it that are so many seconds east of UTC
unfoldable pub local_text_of : ℤ → ℤ → List ℕ
local_text_of m offset = basic_spelling (stamp_of (m +ℤ offset))
