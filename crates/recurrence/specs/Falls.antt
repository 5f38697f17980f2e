-- The days on which a yearly rule falls (RFC 5545, section 3.3.10).
use Rattle.std.specs.Prelude.{◌≡◌, ℕ, ◌+◌, ◌-◌, ◌/◌, ◌≤◌, ℤ, pos, negsuc, ◌+ℤ◌, ◌≤ℤ◌, ◌<ℤ◌}
use Rattle.jiff_core.specs.Calendar.{days_in_month, days_in_year, day_of_year, days_from_civil}
use Rattle.jiff_core.specs.Calendar.{IsCivilDate}
use Rattle.posix_footer.specs.Onset.{weekday_from_sunday}
use Rattle.recurrence.specs.declared.rule_types.Form.{Form}
use Rattle.recurrence.specs.declared.rule_types.Form.TheVariants as form

-- among the nth seven days of a month of that many days, counted from 1 at its start, or from -1
-- at its end, on the way back
abbrev pub IsNth : ℤ → ℕ → ℕ → Type 0
IsNth (pos n) length day = (day - 1) / 7 + 1 ≡ n
IsNth (negsuc n) length day = (length - day) / 7 ≡ n

-- among the seven days of a year of that many days that begin with a day, counted from 1 at the
-- year's start, or from -1 at its end, on the way back
abbrev pub IsAmongDays : ℤ → ℕ → ℕ → Type 0
IsAmongDays (pos n) length day = (n ≤ day) × (day ≤ n + 6)
IsAmongDays (negsuc n) length day = (length ≤ day + n) × (day + n ≤ length + 6)

abbrev pub IsWeekday : ℕ → ℤ → Type 0
IsWeekday weekday day = weekday_from_sunday day ≡ weekday

-- whether a rule's days have the date, whose day number follows it
abbrev pub HasDate : Form → ℤ → ℕ → ℕ → ℤ → Type 0
HasDate (form.NthDay month nth weekday) y m d day =
    (m ≡ month) × IsWeekday weekday day × IsNth nth (days_in_month y m) d
HasDate (form.MonthDays month first weekday) y m d day =
    (m ≡ month) × IsWeekday weekday day × ((first ≤ d) × (d ≤ first + 6))
HasDate (form.YearDays first weekday) y m d day =
    IsWeekday weekday day × IsAmongDays first (days_in_year y) (day_of_year y m d)
HasDate (form.FixedDate month date) y m d day = (m ≡ month) × (d ≡ date)

-- the rule falls on the day
pub record Falls (rule : Form) (day : ℤ) : Type 0 where
  pub year : ℤ
  pub month : ℕ
  pub date : ℕ
  pub there : IsCivilDate year month date
  pub number : day ≡ days_from_civil year month date
  pub has : HasDate rule year month date day

-- a day of the year
abbrev pub IsOfYear : ℤ → ℤ → Type 0
IsOfYear y day =
    (days_from_civil y 1 1 ≤ℤ day) × (day <ℤ (days_from_civil y 1 1 +ℤ pos (days_in_year y)))
