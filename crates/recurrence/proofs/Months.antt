-- Months of any year against those of a common year.
use Rattle.std.proofs.Common.{◌≡◌, ℕ, zero, suc, ◌+◌, ◌-◌, ◌*◌, ◌<◌, ◌≤◌, ◌≢◌, nat_lt, cond, refl, subst, arith, ℤ, pos}
use Rattle.std.proofs.lemmas.Bool.Decides.{nat_tests}
use Rattle.jiff_core.specs.Calendar.{days_in_month, days_in_year, days_of_months, day_count}
use Rattle.jiff_core.proofs.SignedLemmas.{signed_arith}
use Rattle.jiff_core.proofs.MarchLemmas.{leap_day, day_count-early}
use Rattle.jiff_core.proofs.CalendarLemmas.{days_of_months_table, days_of_months-zero, days_of_months_mono, day_count-year_is, day_count-day_of_year}
use Rattle.td_civil.specs.Calendar.{Civil, date_of}
use Rattle.td_civil.proofs.lemmas.Counting.{date_of_counts}
use Rattle.recurrence.specs.RuleOfDate.{common_date}

pub leap_2001 : leap_day (pos 2001) ≡ 0
leap_2001 = refl

pub leap_2004 : leap_day (pos 2004) ≡ 1
leap_2004 = refl

pub leap_day_bound : (y : ℤ) → leap_day y ≤ 1
leap_day_bound y = grind arith

-- January and February begin at one place in every year
pub months_early : (y : ℤ) (n : ℕ) → n ≤ 1 → days_of_months y n ≡ 31 * n
months_early y zero h = omega (arith, days_of_months-zero y)
months_early y (suc zero) h = omega (arith, days_of_months_table y 1 (omega arith))
months_early y (suc (suc n)) h = absurd (omega arith)

late_table : (y : ℤ) (n t : ℕ) → 2 ≤ n → days_of_months y n ≡ t + cond (nat_lt 1 n) (leap_day y) 0 → days_of_months y n ≡ t + leap_day y
late_table y n t h e = grind (arith, nat_tests)

-- and March and those after it a day later in a leap year
pub months_late : (y : ℤ) (n : ℕ) → 2 ≤ n → n < 12 → days_of_months y n ≡ days_of_months (pos 2001) n + leap_day y
months_late y n low h =
    let here = late_table y n _ low (days_of_months_table y n h) in
    let common = late_table (pos 2001) n _ low (days_of_months_table (pos 2001) n h) in
    omega (arith, here, common, leap_2001)

pub months_late_bound : (n : ℕ) → 2 ≤ n → n < 12 → 59 ≤ days_of_months (pos 2001) n
months_late_bound n low h =
    omega (
      arith,
      days_of_months_mono (pos 2001) 2 n low,
      months_late (pos 2001) 2 (omega arith) (omega arith),
      days_of_months_table (pos 2001) 2
          (omega arith),
    )

-- the length of a month
pub length_same : (y : ℤ) (m : ℕ) → m ≢ 2 → days_in_month y m ≡ days_in_month (pos 2001) m
length_same y m h = grind arith

pub length_february : (y : ℤ) → days_in_month y 2 ≡ 28 + leap_day y
length_february y = grind arith

-- the date at a place of a common year
pub record IsCommonDate (c : Civil) (q : ℕ) : Type 0 where
  pub month : (1 ≤ c.month) × (c.month ≤ 12)
  pub day : (1 ≤ c.day) × (c.day ≤ days_in_month (pos 2001) c.month)
  pub place : days_of_months (pos 2001) (c.month - 1) + c.day ≡ q + 1

count_2001 : day_count (pos 2001) 1 1 ≡ 4383276
count_2001 = day_count-early (pos 2001) 12000 1 1 refl (omega arith) (omega arith) (omega arith)

pub common_date_is : (place : ℕ) → place < 365 → IsCommonDate (common_date place) place
unfolding common_date
common_date_is place h =
    let found = date_of_counts (730851 + place) (omega arith) in
    let c = date_of (730851 + place) in
    let long : days_in_year (pos 2001) ≡ 365 = refl in
    let year : pos c.year ≡ pos 2001 = day_count-year_is (pos 2001) (pos c.year) c.month c.day (omega (arith, signed_arith), omega (arith, signed_arith))
    ((omega (arith, signed_arith, found.dated.year), omega (arith, signed_arith, found.dated.year)), found.dated.month, found.dated.day)
    (omega (arith, found.count, count_2001)) (omega (arith, found.count, count_2001, long)) in
    let Day : ℤ → Type 0 = λ k. c.day ≤ days_in_month k c.month in
    let Count : ℤ → Type 0 = λ k. day_count k c.month c.day ≡ 730851 + place + 3652425 in
    let count = subst Count year found.count in
    record {
      month = found.dated.month;
      day = (found.dated.day.0, subst Day year found.dated.day.1);
      place = omega (arith, count, count_2001, day_count-day_of_year (pos 2001) c.month c.day found.dated.day.0);
    }
