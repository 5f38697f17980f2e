-- Where the days and the onsets of a year lie.
use Rattle.std.proofs.Common.{◌≡◌, ℕ, zero, suc, ◌+◌, ◌-◌, ◌*◌, ◌%◌, ◌<◌, ◌≤◌, ◌≢◌, min, inl, inr, sym, subst, ap, ◌∙◌, arith, ℤ, pos, negsuc, unsigned_abs}
use Rattle.std.proofs.Common.{◌+ℤ◌, ◌≤ℤ◌}
use Rattle.std.proofs.lemmas.Bool.{cases_order}
use Rattle.std.proofs.lemmas.Bool.Decides.{nat_tests}
use Rattle.std.specs.Int.{IsInRange}
use Rattle.jiff_core.specs.Calendar.{days_from_civil, days_in_month, weekday_number, IsCivilDate, IsYear}
use Rattle.jiff_core.proofs.SignedLemmas.{signed_arith}
use Rattle.jiff_core.proofs.CalendarLemmas.{days_from_civil-day_count, day_count-day_of_year, day_of_year_bound, days_in_year_bounds, days_in_month_bounds}
use Rattle.jiff_core.proofs.CalendarLemmas.{weekday_number_bound}
use Rattle.jiff_core.proofs.DateLemmas.{weekday_number-day}
use Rattle.jiff_core.specs.declared.civil.date.Date.{Date}
use Rattle.jiff_core.specs.declared.civil.weekday.Weekday.{Weekday}
use Rattle.jiff_core.specs.Date.{epoch_day, IsNthFromStart, IsNthFromEnd, IsNthWeekdayOfMonth}
use Rattle.jiff_core.specs.Weekday.{monday_zero, sunday_zero}
use Rattle.posix_footer.specs.declared.rule_types.DayForm.{DayForm}
use Rattle.posix_footer.specs.declared.rule_types.DayForm.TheVariants as day
use Rattle.posix_footer.specs.Lawful.{IsLawfulDay}
use Rattle.posix_footer.specs.Onset.{weekday_from_sunday, last_weekday, month_day, days_before, day_number, IsDayNamed}

last_weekday-here : (y : ℤ) (m w n : ℕ) → weekday_from_sunday (days_from_civil y m (suc n)) ≡ w → last_weekday y m w (suc n) ≡ suc n
unfolding last_weekday
last_weekday-here y m w n e = grind (arith, nat_tests)

last_weekday-before : (y : ℤ) (m w n : ℕ) → weekday_from_sunday (days_from_civil y m (suc n)) ≢ w → last_weekday y m w (suc n) ≡ last_weekday y m w n
unfolding last_weekday
last_weekday-before y m w n ne = grind (arith, nat_tests)

-- a day with the weekday, less than a week before the nth, is the last such day
pub last_weekday_is : (y : ℤ) (m w n d : ℕ) → 1 ≤ d → d ≤ n → n < d + 7 → weekday_from_sunday (days_from_civil y m d) ≡ w → last_weekday y m w n ≡ d
last_weekday_is y m w zero d low le near is = absurd (omega arith)
last_weekday_is y m w (suc n) d low le near is =
    elim (cases_order d (suc n)) [
      | inl same ↦ last_weekday-here y m w n (ap (λ k. weekday_from_sunday (days_from_civil y m k)) (sym same) ∙ is) ∙ sym same
      | inr (inl lt) ↦
          let later = weekday_number-day y m d (suc n) low le in
          let bound = weekday_number_bound (days_from_civil y m d) in
          let other : weekday_from_sunday (days_from_civil y m (suc n)) ≢ w = omega arith in
          last_weekday-before y m w n other ∙ last_weekday_is y m w n d low (omega arith) (omega arith) is
      | inr (inr gt) ↦ absurd (omega arith)
    ]

-- the distance back from the nth day of the month to the weekday
abbrev pub days_back : ℤ → ℕ → ℕ → ℕ → ℕ
days_back y m w n = (weekday_from_sunday (days_from_civil y m n) + 7 - w) % 7

pub last_weekday_found : (y : ℤ) (m w n : ℕ) → 7 ≤ n → w ≤ 6 → last_weekday y m w n ≡ n - days_back y m w n
last_weekday_found y m w n week h =
    let back = days_back y m w n in
    let within : back < 7 = omega arith in
    let later = weekday_number-day y m (n - back) n (omega arith) (omega arith) in
    let bound = weekday_number_bound (days_from_civil y m (n - back)) in
    let bound_n = weekday_number_bound (days_from_civil y m n) in
    last_weekday_is y m w n (n - back) (omega arith) (omega arith) (omega arith) (omega arith)

-- the day of a week form is a day of its month
pub month_day_within : (y : ℤ) (m week w : ℕ) → 1 ≤ week → w ≤ 6 → (1 ≤ month_day y m week w) × (month_day y m week w ≤ days_in_month y m)
month_day_within y m week w low h =
    let long = days_in_month_bounds y m in
    let found = last_weekday_found y m w (min (7 * week) (days_in_month y m)) (omega arith) h in
    omega arith

-- It has its weekday, and is the last such day of its weeks
pub month_day_is : (y : ℤ) (m week w : ℕ) → 1 ≤ week → w ≤ 6
    → (weekday_from_sunday (days_from_civil y m (month_day y m week w)) ≡ w)
    × (month_day y m week w ≤ min (7 * week) (days_in_month y m))
    × (min (7 * week) (days_in_month y m) < month_day y m week w + 7)
month_day_is y m week w low h =
    let long = days_in_month_bounds y m in
    let n = min (7 * week) (days_in_month y m) in
    let found = last_weekday_found y m w n (omega arith) h in
    let d = month_day y m week w in
    let within = month_day_within y m week w low h in
    let bound = weekday_number_bound (days_from_civil y m n) in
    let bound_d = weekday_number_bound (days_from_civil y m d) in
    let later = weekday_number-day y m d n within.0 (omega arith) in
    (omega arith, omega arith, omega arith)

-- a form's day stands among those that it can name
pub named : (form : DayForm) (y : ℤ) → IsLawfulDay form → IsDayNamed form y
named (day.Julian n) y h = record { after = 0; among = omega arith; number = omega (arith, signed_arith) }
named (day.YearDay n) y h = record { after = 0; among = omega arith; number = omega (arith, signed_arith) }
named (day.Week m week w) y h =
    let is = month_day_is y m week w h.2 h.4 in
    let within = month_day_within y m week w h.2 h.4 in
    let n = min (7 * week) (days_in_month y m) in
    let long = days_in_month_bounds y m in
    record {
      after = month_day y m week w + 6 - n;
      among = omega (arith, is);
      number = omega (arith, signed_arith, is.1, is.2, within.0, days_from_civil-day_count, day_count-day_of_year y m (month_day y m week w) within.0);
    }

pub days_before_bounds : (y : ℤ) (n : ℕ) → (n ≤ days_before y n + 1) × (days_before y n ≤ n)
days_before_bounds y n = grind arith

-- the days of a year: 1 January and the days after it, the next 1 January among them
pub day_number_within : (form : DayForm) (y : ℤ) → IsLawfulDay form → IsYear y
    → (days_from_civil y 1 1 ≤ℤ day_number form y) × (day_number form y ≤ℤ (days_from_civil y 1 1 +ℤ pos 365))
day_number_within (day.Julian n) y h year = let b = days_before_bounds y n in omega (arith, signed_arith)
day_number_within (day.YearDay n) y h year = omega (arith, signed_arith)
day_number_within (day.Week m week w) y h year =
    let d = month_day_within y m week w h.2 h.4 in
    let civil : IsCivilDate y m (month_day y m week w) = (year, (h.0, h.1), d) in
    omega (
      arith,
      signed_arith,
      days_from_civil-day_count,
      day_count-day_of_year y m (month_day y m week w) d.0,
      day_of_year_bound y m (month_day y m week w)
          civil,
      days_in_year_bounds y,
    )

from_sunday-same : (within d : Date) (wd : Weekday) (w : ℕ) → d.year ≡ within.year → d.month ≡ within.month
    → weekday_number (days_from_civil d.year d.month d.day) ≡ monday_zero wd → sunday_zero wd ≡ w
    → weekday_from_sunday (days_from_civil within.year within.month d.day) ≡ w
from_sunday-same within d wd w year month is sunday =
    rw (← year, ← month) (ap (λ k. (k + 1) % 7) is ∙ sunday)

day_from_start : (within d : Date) (wd : Weekday) (week w : ℕ) → IsNthFromStart within week wd d → 1 ≤ week → week < 5 → sunday_zero wd ≡ w
    → d.day ≡ month_day within.year within.month week w
day_from_start within d wd week w nth low high sunday =
    let long = days_in_month_bounds within.year within.month in
    let near : (7 * week < 7 + d.day) × (d.day ≤ 7 * week) × (0 < d.day) = omega (arith, signed_arith) in
    let same = from_sunday-same within d wd w nth.0.0 nth.0.1 nth.0.2 sunday in
    sym (last_weekday_is within.year within.month w (min (7 * week) (days_in_month within.year within.month)) d.day (omega arith) (omega arith) (omega arith)
    same)

day_from_end : (within d : Date) (wd : Weekday) (w : ℕ) → IsNthFromEnd within 1 wd d → sunday_zero wd ≡ w → d.day ≡ month_day within.year within.month 5 w
day_from_end within d wd w nth sunday =
    let long = days_in_month_bounds within.year within.month in
    let length_is : days_in_month d.year d.month ≡ days_in_month within.year within.month = rw (nth.0.0, nth.0.1) in
    let near : days_in_month within.year within.month < d.day + 7 = omega (arith, signed_arith) in
    let same = from_sunday-same within d wd w nth.0.0 nth.0.1 nth.0.2 sunday in
    sym (last_weekday_is within.year within.month w (min (7 * 5) (days_in_month within.year within.month)) d.day d.day_in.0 (omega arith) (omega arith) same)

-- the place from the start, or the first from the end for a fifth week
pub record IsPlaceOf (week : ℕ) (nth : ℤ) : Type 0 where
  pub before : week < 5 → nth ≡ pos week
  pub last : week ≡ 5 → nth ≡ negsuc 0

-- what jiff calls the nth weekday of a month, the last being the first from the end
nth_day_is : (within d : Date) (wd : Weekday) (nth : ℤ) (week w : ℕ) → IsNthWeekdayOfMonth within nth wd d → IsPlaceOf week nth → 1 ≤ week → week ≤ 5
    → sunday_zero wd ≡ w → (d.year ≡ within.year) × (d.month ≡ within.month) × (d.day ≡ month_day within.year within.month week w)
nth_day_is within d wd nth week w is place low high sunday =
    elim (cases_order week 5) [
      | inl five ↦
          let from_end : IsNthFromEnd within 1 wd d = rw (place.last five) at is in
          let P : ℕ → Type 0 = λ k. d.day ≡ month_day within.year within.month k w in
          (from_end.0.0, from_end.0.1, subst P (sym five) (day_from_end within d wd w from_end sunday))
      | inr (inl lt) ↦
          let from_start : IsNthFromStart within week wd d = rw (place.before lt) at is in
          (from_start.0.0, from_start.0.1, day_from_start within d wd week w from_start low lt sunday)
      | inr (inr gt) ↦ absurd (omega arith)
    ]

pub nth_weekday_is : (within d : Date) (wd : Weekday) (nth : ℤ) (week w : ℕ) (year : ℤ) (month : ℕ) → IsNthWeekdayOfMonth within nth wd d
    → IsPlaceOf week nth → 1 ≤ week → week ≤ 5 → sunday_zero wd ≡ w → within.year ≡ year → within.month ≡ month
    → (d.year ≡ year) × (pos d.month ≡ pos month) × (pos d.day ≡ pos (month_day year month week w))
nth_weekday_is within d wd nth week w year month is place low high sunday year_is month_is =
    let found = nth_day_is within d wd nth week w is place low high sunday in
    rw (← year_is, ← month_is) (found.0, ap pos found.1, ap pos found.2)

-- and such a day there always is
pub place_in_range : (week : ℕ) (nth : ℤ) → IsPlaceOf week nth → 1 ≤ week → week ≤ 5 → IsInRange 1 4 (unsigned_abs nth)
place_in_range week nth place low high =
    elim (cases_order week 5) [
      | inl five ↦ rw (place.last five) (omega arith, omega arith)
      | inr (inl lt) ↦ rw (place.before lt) (omega arith, omega arith)
      | inr (inr gt) ↦ absurd (omega arith)
    ]

pub epoch_day_of : (d : Date) (year : ℤ) (month n : ℕ) → (d.year ≡ year) × (pos d.month ≡ pos month) × (pos d.day ≡ pos n)
    → epoch_day d ≡ days_from_civil year month n
epoch_day_of d year month n is =
    let month_is : d.month ≡ month = cc (is.1) in
    let day_is : d.day ≡ n = cc (is.2) in
    rw (is.0, month_is, day_is)
