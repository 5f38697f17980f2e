-- The rules that fall on one day of each year.
use Rattle.std.specs.Prelude.{◌≡◌, ℕ, ◌+◌, ◌≤◌, ◌<◌, ℤ, pos, negsuc}
use Rattle.jiff_core.specs.Calendar.{days_in_month}
use Rattle.recurrence.specs.declared.rule_types.Form.{Form}
use Rattle.recurrence.specs.declared.rule_types.Form.TheVariants as form
use Rattle.recurrence.specs.declared.rule_types.Rule.{Rule}

abbrev pub IsMonth : ℕ → Type 0
IsMonth month = (1 ≤ month) × (month ≤ 12)

-- 1 to 4, or -1
abbrev pub IsOrdinal : ℤ → Type 0
IsOrdinal (pos n) = (1 ≤ n) × (n ≤ 4)
IsOrdinal (negsuc n) = n ≡ 0

-- seven days of each year: 1 to 359, or -365 to -7
abbrev pub IsFirstDay : ℤ → Type 0
IsFirstDay (pos n) = (1 ≤ n) × (n ≤ 359)
IsFirstDay (negsuc n) = (6 ≤ n) × (n ≤ 364)

-- what a month has in each year: days_in_month of a common year
abbrev pub IsValidForm : Form → Type 0
IsValidForm (form.NthDay month nth weekday) = IsMonth month × IsOrdinal nth × (weekday ≤ 6)
IsValidForm (form.MonthDays month first weekday) =
    IsMonth month × ((1 ≤ first) × (first + 6 ≤ days_in_month (pos 2001) month)) × (weekday ≤ 6)
IsValidForm (form.YearDays first weekday) = IsFirstDay first × (weekday ≤ 6)
IsValidForm (form.FixedDate month date) =
    IsMonth month × ((1 ≤ date) × (date ≤ days_in_month (pos 2001) month))

pub record IsValid (rule : Rule) : Type 0 where
  pub form : IsValidForm rule.form
  pub second : rule.second < 86400
