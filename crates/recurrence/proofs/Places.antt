-- Where the days that a form can name lie in every year.
use Rattle.std.proofs.Common.{◌≡◌, ℕ, ◌+◌, ◌-◌, ◌≤◌, inl, inr, refl, ap, ◌∙◌, arith, ℤ, pos}
use Rattle.std.proofs.lemmas.Bool.{cases_lt, cases_order}
use Rattle.std.proofs.lemmas.Bool.Decides.{nat_tests}
use Rattle.jiff_core.specs.Calendar.{days_in_month, days_of_months}
use Rattle.jiff_core.proofs.MarchLemmas.{leap_day}
use Rattle.jiff_core.proofs.CalendarLemmas.{days_in_month_bounds}
use Rattle.posix_footer.specs.declared.rule_types.DayForm.{DayForm}
use Rattle.posix_footer.specs.declared.rule_types.DayForm.TheVariants as day
use Rattle.posix_footer.specs.Lawful.{IsLawfulDay}
use Rattle.posix_footer.specs.Onset.{days_before}
use Rattle.posix_footer.specs.Onset.{first_place}
use Rattle.recurrence.proofs.Months.{leap_2001, leap_2004, leap_day_bound, months_early, months_late, length_same, length_february}

pub days_before_is : (y : ℤ) (n : ℕ) → 1 ≤ n → (n ≤ 59 → days_before y n ≡ n - 1) × (60 ≤ n → days_before y n ≡ n - 1 + leap_day y)
days_before_is y n h = (λ early. grind (arith, nat_tests), λ late. grind (arith, nat_tests))

february_short : (y : ℤ) (m : ℕ) → m ≡ 2 → days_in_month y m ≤ 29
february_short y m e = omega (arith, leap_day_bound y, ap (days_in_month y) e ∙ length_february y)

-- the first place of a form that keeps its place from the year's start
pub first_early : (form : DayForm) (y : ℤ) → IsLawfulDay form → first_place form (pos 2004) ≡ first_place form (pos 2001)
    → first_place form (pos 2001) ≤ 58 → first_place form y ≡ first_place form (pos 2001)
first_early (day.Julian n) y h same low =
    let common = days_before_is (pos 2001) n h.0 in
    let here = days_before_is y n h.0 in
    elim (cases_lt n 60) [
      | inl lt ↦ omega (arith, common.0 (omega arith), here.0 (omega arith))
      | inr le ↦ absurd (omega (arith, common.1 le, leap_2001))
    ]
first_early (day.YearDay n) y h same low = refl
first_early (day.Week month week weekday) y h same low =
    elim (cases_order month 2) [
      | inl two ↦
          let begin : days_of_months y (month - 1) ≡ 31 = months_early y (month - 1) (omega arith) ∙ omega (arith, two) in
          let begin_common : days_of_months (pos 2001) (month - 1) ≡ 31 = months_early (pos 2001) (month - 1) (omega arith) ∙ omega (arith, two) in
          let begin_leap : days_of_months (pos 2004) (month - 1) ≡ 31 = months_early (pos 2004) (month - 1) (omega arith) ∙ omega (arith, two) in
          let long : days_in_month y month ≡ 28 + leap_day y = ap (days_in_month y) two ∙ length_february y in
          let long_common : days_in_month (pos 2001) month ≡ 28 = ap (days_in_month (pos 2001)) two ∙ length_february (pos 2001) in
          let long_leap : days_in_month (pos 2004) month ≡ 29 = ap (days_in_month (pos 2004)) two ∙ length_february (pos 2004) in
          omega (arith, leap_day_bound y)
      | inr (inl lt) ↦
          let one : month ≡ 1 = omega arith in
          let begin = months_early y (month - 1) (omega arith) in
          let begin_common = months_early (pos 2001) (month - 1) (omega arith) in
          omega (arith, length_same y month (omega arith))
      | inr (inr gt) ↦
          let long = days_in_month_bounds (pos 2001) month in
          absurd (omega (arith, months_late (pos 2004) (month - 1) (omega arith) (omega arith), leap_2004, length_same (pos 2004) month (omega arith)))
    ]

-- and of one that keeps its place from the year's end
pub first_late : (form : DayForm) (y : ℤ) → IsLawfulDay form → first_place form (pos 2004) ≡ first_place form (pos 2001) + 1
    → 59 ≤ first_place form (pos 2001) → first_place form y ≡ first_place form (pos 2001) + leap_day y
first_late (day.Julian n) y h same high =
    let common = days_before_is (pos 2001) n h.0 in
    let here = days_before_is y n h.0 in
    elim (cases_lt n 60) [
      | inl lt ↦ absurd (omega (arith, common.0 (omega arith)))
      | inr le ↦ omega (arith, common.1 le, here.1 le, leap_2001)
    ]
first_late (day.YearDay n) y h same high = absurd (omega arith)
first_late (day.Week month week weekday) y h same high =
    elim (cases_lt month 3) [
      | inl lt ↦ absurd (omega (
        arith,
        months_early (pos 2001) (month - 1) (omega arith),
        days_in_month_bounds (pos 2001) month,
        february_short
            (pos 2001) month,
      ))
      | inr le ↦ omega (arith, months_late y (month - 1) (omega arith) (omega arith), length_same y month (omega arith))
    ]
