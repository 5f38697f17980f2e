-- The seven days of a year among which a rule's weekday stands, and the first of them that has it.
use Rattle.std.specs.Prelude.{ℕ, suc, ◌+◌, ◌-◌, ◌*◌, ◌%◌, ℤ, pos, negsuc}
use Rattle.jiff_core.specs.Calendar.{days_in_month, days_in_year, days_of_months}
use Rattle.posix_footer.specs.Onset.{weekday_from_sunday}
use Rattle.recurrence.specs.declared.rule_types.Form.{Form}
use Rattle.recurrence.specs.declared.rule_types.Form.TheVariants as form

-- the place of the first day of the row in its year, from 0
abbrev pub row_first : Form → ℤ → ℕ
row_first (form.NthDay month (pos n) weekday) y = days_of_months y (month - 1) + 7 * n - 7
row_first (form.NthDay month (negsuc n) weekday) y =
    days_of_months y (month - 1) + days_in_month y month - 7 * suc n
row_first (form.MonthDays month first weekday) y = days_of_months y (month - 1) + first - 1
row_first (form.YearDays (pos n) weekday) y = n - 1
row_first (form.YearDays (negsuc n) weekday) y = days_in_year y - suc n
row_first (form.FixedDate month date) y = days_of_months y (month - 1) + date - 1

-- how many days into a month of that many days the nth seven days begin, from its start or its end
abbrev pub weeks_begin : ℤ → ℕ → ℕ
weeks_begin (pos n) length = 7 * n - 7
weeks_begin (negsuc n) length = length - 7 * suc n

-- how many days after a day a weekday comes, or none on the day itself
unfoldable pub days_ahead : ℕ → ℤ → ℕ
days_ahead w s = (w + 7 - weekday_from_sunday s) % 7
