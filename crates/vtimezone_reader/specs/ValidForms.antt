-- Whether a rule falls on one day of each year, as a test: `IsValidForm` of `recurrence`.
use Rattle.std.specs.Prelude.{ℕ, ◌+◌, ◌==◌, nat_le, ℤ, pos, negsuc, Bool, ◌&&◌}
use Rattle.jiff_core.specs.Calendar.{days_in_month}
use Rattle.recurrence.specs.declared.rule_types.Form.{Form}
use Rattle.recurrence.specs.declared.rule_types.Form.TheVariants as form

abbrev pub is_month : ℕ → Bool
is_month month = nat_le 1 month && nat_le month 12

-- 1 to 4, or -1
abbrev pub is_ordinal : ℤ → Bool
is_ordinal (pos n) = nat_le 1 n && nat_le n 4
is_ordinal (negsuc n) = n == 0

-- the first of seven days that each year has: 1 to 359, or -365 to -7
abbrev pub is_first_day : ℤ → Bool
is_first_day (pos n) = nat_le 1 n && nat_le n 359
is_first_day (negsuc n) = nat_le 6 n && nat_le n 364

-- a day of the month, and so many after it, that each year has
abbrev pub has_days : ℕ → ℕ → ℕ → Bool
has_days month first more = nat_le 1 first && nat_le (first + more) (days_in_month (pos 2001) month)

unfoldable pub is_valid_form : Form → Bool
is_valid_form (form.NthDay month nth weekday) =
    is_month month && is_ordinal nth && nat_le weekday 6
is_valid_form (form.MonthDays month first weekday) =
    is_month month && has_days month first 6 && nat_le weekday 6
is_valid_form (form.YearDays first weekday) = is_first_day first && nat_le weekday 6
is_valid_form (form.FixedDate month date) = is_month month && has_days month date 0
