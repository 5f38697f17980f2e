use Rattle.std.proofs.Common.{rules, ◌≡◌, ◌∙◌, refl, ap, sym, subst, arith, ℕ, ◌≤◌, ℤ, pos, neg_ℤ, ◌+ℤ◌, ◌-ℤ◌, w64, w16, w8, FitsSigned, to_z, of_z, to_z-of_z}
use Rattle.jiff_core.proofs.SignedLemmas.{signed_arith}
use Rattle.jiff_core.proofs.CalendarLemmas.{days_in_month_bounds}
use Rattle.jiff_core.specs.Calendar.{IsYear, IsBetween, days_in_month, days_from_civil}
use Rattle.recurrence.specs.declared.rule_types.Form.{Form}
use Rattle.recurrence.specs.declared.rule_types.Form.TheVariants as form
use Rattle.recurrence.specs.Occurs.{IsOccurrence}
use Rattle.recurrence.specs.Row.{row_first, days_ahead, weeks_begin}
use Rattle.recurrence.specs.Valid.{IsValidForm}
use Rattle.recurrence.proofs.Windows.{nth_day_occurs, month_days_occur, year_days_occur, fixed_date_occurs, weeks_start, month_days_start, year_days_start}
use Rattle.recurrence.proofs.Windows.{fixed_date_start}
use Rattle.recurrence.proofs.yearly.day_in_year.Goals as goal

year_of : (y : ℤ) → IsBetween (pos 1800) (pos 9999) y → IsYear y
year_of y h = (omega (arith, signed_arith), omega (arith, signed_arith))

pub first_on-requires-in-MonthDays-clause-day : goal.first_on-requires-in-MonthDays-clause-day
first_on-requires-in-MonthDays-clause-day c =
    let h : IsValidForm (form.MonthDays c.in-MonthDays.month c.in-MonthDays.first c.in-MonthDays.weekday) =
    subst IsValidForm c.in-MonthDays.is c.requires.valid in
    let long = days_in_month_bounds (pos 2001) c.in-MonthDays.month in
    let most : c.in-MonthDays.first ≤ 31 = omega (arith, h.1, long) in (
      omega (arith, signed_arith, c.first_of_month-in-MonthDays.ensures.bound, c.from.ensures, most, h.1),
      omega
          (arith, signed_arith, c.first_of_month-in-MonthDays.ensures.bound, c.from.ensures, most, h.1),
    )

pub first_on-requires-in-YearDays-clause-day : goal.first_on-requires-in-YearDays-clause-day
first_on-requires-in-YearDays-clause-day c = (
  omega (arith, signed_arith, c.new_year_day.ensures.bound, c.first_of_days.ensures.bound),
  omega
      (arith, signed_arith, c.new_year_day.ensures.bound, c.first_of_days.ensures.bound),
)

-- a 64-bit number as it is passed on
passed : (z : ℤ) → IsBetween (neg_ℤ (pos 5_000_000)) (pos 5_000_000) z → to_z w64 (of_z w64 z) ≡ z
passed z h = omega (arith, signed_arith)

from_ahead : (w : ℕ) (arg s day : ℤ) → arg ≡ s → day ≡ arg +ℤ pos (days_ahead w arg) → day ≡ s +ℤ pos (days_ahead w s)
from_ahead w arg s day e is = is ∙ ap (λ k. k +ℤ pos (days_ahead w k)) e

occurs_as : (f g : Form) (y day : ℤ) → f ≡ g → IsOccurrence g y day → IsOccurrence f y day
occurs_as f g y day e is = let P : Form → Type 0 = λ k. IsOccurrence k y day in subst P (sym e) is

pub returns-in-NthDay : goal.returns-in-NthDay
returns-in-NthDay c =
    let m = c.in-NthDay.month in
    let nth = c.in-NthDay.nth in
    let w = c.in-NthDay.weekday in
    let y = c.args.year in
    let h : IsValidForm (form.NthDay m nth w) = subst IsValidForm c.in-NthDay.is c.requires.valid in
    let fits : FitsSigned w64 c.first_on.result = search rules in
    let fits_nth : FitsSigned w8 nth = search rules in
    let first = c.first_of_month.result in
    let after = c.first_of_weeks.result in
    let first_is : first ≡ days_from_civil y m 1 = simp (to_z-of_z c.ranges.year) at c.first_of_month.ensures.value in
    let after_is : after ≡ pos (weeks_begin nth (days_in_month y m)) = simp
    (to_z-of_z c.ranges.year, to_z-of_z fits_nth) at c.first_of_weeks.ensures.value in
    let arg : to_z w64 (of_z w64 (to_z w64 (of_z w64 first) +ℤ to_z w64 (of_z w64 after))) ≡ first +ℤ after = omega
    (arith, signed_arith, c.first_of_month.ensures.bound, c.first_of_weeks.ensures.bound) in
    let start = weeks_start m nth w y first after (first +ℤ after) h.1 first_is after_is refl in
    let is = from_ahead w _ (first +ℤ after) c.first_on.result arg c.first_on.ensures in
    rw (to_z-of_z fits) (occurs_as c.args.form (form.NthDay m nth w) y c.first_on.result c.in-NthDay.is
    (nth_day_occurs m nth w y (first +ℤ after) c.first_on.result (year_of y c.requires.year_in) h start is))

pub returns-in-MonthDays : goal.returns-in-MonthDays
returns-in-MonthDays c =
    let m = c.in-MonthDays.month in
    let from = c.in-MonthDays.first in
    let w = c.in-MonthDays.weekday in
    let y = c.args.year in
    let h : IsValidForm (form.MonthDays m from w) = subst IsValidForm c.in-MonthDays.is c.requires.valid in
    let fits : FitsSigned w64 c.first_on-in-MonthDays.result = search rules in
    let first = c.first_of_month-in-MonthDays.result in
    let first_is : first ≡ days_from_civil y m 1 = simp (to_z-of_z c.ranges.year) at c.first_of_month-in-MonthDays.ensures.value in
    let s = first +ℤ pos from -ℤ pos 1 in
    let long = days_in_month_bounds (pos 2001) m in
    let most : from ≤ 31 = omega (arith, h.1, long) in
    let arg : to_z w64 (of_z w64 (to_z w64 (of_z w64 (to_z w64 (of_z w64 first) +ℤ to_z w64 (of_z w64 c.from.result))) -ℤ pos 1)) ≡ s = omega
    (arith, signed_arith, c.first_of_month-in-MonthDays.ensures.bound, c.from.ensures, most) in
    let start = month_days_start m from w y first s h.1.0 first_is refl in
    let is = from_ahead w _ s c.first_on-in-MonthDays.result arg c.first_on-in-MonthDays.ensures in
    rw (to_z-of_z fits) (occurs_as c.args.form (form.MonthDays m from w) y c.first_on-in-MonthDays.result c.in-MonthDays.is
    (month_days_occur m from w y s c.first_on-in-MonthDays.result (year_of y c.requires.year_in) h start is))

pub returns-in-YearDays : goal.returns-in-YearDays
returns-in-YearDays c =
    let from = c.in-YearDays.first in
    let w = c.in-YearDays.weekday in
    let y = c.args.year in
    let h : IsValidForm (form.YearDays from w) = subst IsValidForm c.in-YearDays.is c.requires.valid in
    let fits : FitsSigned w64 c.first_on-in-YearDays.result = search rules in
    let fits_from : FitsSigned w16 from = search rules in
    let first = c.new_year_day.result in
    let after = c.first_of_days.result in
    let first_is : first ≡ days_from_civil y 1 1 = simp (to_z-of_z c.ranges.year) at c.new_year_day.ensures.value in
    let after_is : after ≡ pos (row_first (form.YearDays from 0) y) = simp
    (to_z-of_z c.ranges.year, to_z-of_z fits_from) at c.first_of_days.ensures.value in
    let arg : to_z w64 (of_z w64 (to_z w64 (of_z w64 first) +ℤ to_z w64 (of_z w64 after))) ≡ first +ℤ after = omega
    (arith, signed_arith, c.new_year_day.ensures.bound, c.first_of_days.ensures.bound) in
    let start = year_days_start from w y first after (first +ℤ after) first_is after_is refl in
    let is = from_ahead w _ (first +ℤ after) c.first_on-in-YearDays.result arg c.first_on-in-YearDays.ensures in
    rw (to_z-of_z fits) (occurs_as c.args.form (form.YearDays from w) y c.first_on-in-YearDays.result c.in-YearDays.is
    (year_days_occur from w y (first +ℤ after) c.first_on-in-YearDays.result (year_of y c.requires.year_in) h start is))

pub returns-in-FixedDate : goal.returns-in-FixedDate
returns-in-FixedDate c =
    let m = c.in-FixedDate.month in
    let d = c.in-FixedDate.day in
    let y = c.args.year in
    let h : IsValidForm (form.FixedDate m d) = subst IsValidForm c.in-FixedDate.is c.requires.valid in
    let first = c.first_of_month-in-FixedDate.result in
    let first_is : first ≡ days_from_civil y m 1 = simp (to_z-of_z c.ranges.year) at c.first_of_month-in-FixedDate.ensures.value in
    let s = first +ℤ pos d -ℤ pos 1 in
    let long = days_in_month_bounds (pos 2001) m in
    let most : d ≤ 31 = omega (arith, h.1, long) in
    let arg : to_z w64 (of_z w64 (to_z w64 (of_z w64 (to_z w64 (of_z w64 first) +ℤ to_z w64 (of_z w64 c.from-in-FixedDate.result))) -ℤ pos 1)) ≡ s = omega
    (arith, signed_arith, c.first_of_month-in-FixedDate.ensures.bound, c.from-in-FixedDate.ensures, most) in
    let day_is = fixed_date_start m d y first s h.1.0 first_is refl in
    rw arg (occurs_as c.args.form (form.FixedDate m d) y s c.in-FixedDate.is (fixed_date_occurs m d y s (year_of y c.requires.year_in) h day_is))
