-- The yearly rule of a date of a footer, and what a footer says of each year.
use Rattle.std.specs.Prelude.{ℕ, ◌+◌, ◌==◌, nat_le, if◌then◌else◌, ℤ, pos, negsuc, ◌+ℤ◌, ◌-ℤ◌}
use Rattle.std.specs.Prelude.{unsigned_abs, Option, None, Some, Result, Ok, Err}
use Rattle.std.specs.Ordering.{int_eq}
use Rattle.std.specs.Int.{int_rem_euclid}
use Rattle.td_civil.specs.Calendar.{Civil, date_of}
use Rattle.td_civil.specs.declared.local_time.Local.{Local}
use Rattle.posix_footer.specs.declared.rule_types.DayForm.{DayForm}
use Rattle.posix_footer.specs.declared.rule_types.DayForm.TheVariants as day
use Rattle.posix_footer.specs.declared.rule_types.Date.{Date}
use Rattle.posix_footer.specs.declared.rule_types.DstRule.{DstRule}
use Rattle.posix_footer.specs.declared.rule_types.Footer.{Footer}
use Rattle.posix_footer.specs.Carried.{moved_by, is_all_year, beyond_if_any}
use Rattle.posix_footer.specs.Onset.{first_place}
use Rattle.recurrence.specs.declared.rule_types.Form.{Form}
use Rattle.recurrence.specs.declared.rule_types.Form.TheVariants as form
use Rattle.recurrence.specs.declared.rule_types.Rule.{Rule}
use Rattle.recurrence.specs.declared.rule_fault.RuleBeyond.{RuleBeyond}
use Rattle.recurrence.specs.declared.rule_types.Carried.{Carried}
use Rattle.recurrence.specs.declared.rule_types.Carried.TheVariants as carried

-- the second of the day that is left of a time
abbrev pub second_in_day : ℤ → ℕ
second_in_day time = unsigned_abs (int_rem_euclid time (pos 86400))

-- the date at a place of a year of 365 days, by counting: 1 January 2001 is 730851 days after 1
-- January of the year 0
unfoldable pub common_date : ℕ → Civil
common_date place = date_of (730851 + place)

-- the weekday k days later
abbrev pub turned : ℕ → ℤ → ℕ
turned weekday k = unsigned_abs (int_rem_euclid (pos weekday +ℤ k) (pos 7))

-- a weekday among seven days in a row, which begin at a place of a year of 365 days: days of one
-- month, or else days that count from the year's start up to February and from its end from March
-- on
abbrev pub row_form : ℕ → ℕ → Form
row_form place weekday =
    if (common_date place).month == (common_date (place + 6)).month
    then form.MonthDays (common_date place).month (common_date place).day weekday
    else if nat_le place 58 then form.YearDays (pos (place + 1)) weekday
    else form.YearDays (pos place -ℤ pos 365) weekday

-- the place, in a year of 365 days, of the first day that the form can name, k days later
abbrev pub row_place : DayForm → ℤ → ℕ
row_place d k = unsigned_abs (pos (first_place d (pos 2001)) +ℤ k)

-- the place of a week among those of a month, -1 for the last
abbrev pub nth_of : ℕ → ℤ
nth_of week = if week == 5 then negsuc 0 else pos week

-- the days k days later than those that a form names
abbrev pub form_of : DayForm → ℤ → Form
form_of (day.Week month week weekday) k =
    if int_eq k (pos 0) then form.NthDay month (nth_of week) weekday
    else row_form (row_place (day.Week month week weekday) k) (turned weekday k)
form_of d k = form.FixedDate (common_date (row_place d k)).month (common_date (row_place d k)).day

-- the date's time moves it by whole days, and what is left of it is the second of the day
abbrev pub rule_of : Date → Rule
rule_of date = record {
  form = form_of date.day (moved_by date.time);
  second = second_in_day date.time;
}

abbrev pub carried_if_any : Local → Option DstRule → Carried
carried_if_any std None = carried.Constant std
carried_if_any std (Some rule) =
    if is_all_year std.offset rule then carried.Constant rule.dst
    else carried.Pair std rule.dst (rule_of rule.start) (rule_of rule.end)

abbrev pub carry_if_any : Local → Option DstRule → Result Carried RuleBeyond
carry_if_any std rule =
    if beyond_if_any std.offset rule then Err (record {}) else Ok (carried_if_any std rule)

-- what a footer says of each year, or that no rules say it
abbrev pub carry_of : Footer → Result Carried RuleBeyond
carry_of footer = carry_if_any footer.std footer.dst
