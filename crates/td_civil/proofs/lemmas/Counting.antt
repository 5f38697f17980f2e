-- Counting off years, months and days gives the date that has that many days before it, and no
-- other date has.
use Rattle.std.proofs.Common.{◌≡◌, ℕ, zero, suc, ◌+◌, ◌-◌, ◌<◌, ◌≤◌, nat_lt, refl, arith, ℤ, pos, ◌+ℤ◌, ◌≤ℤ◌, unsigned_abs}
use Rattle.std.proofs.lemmas.Bool.{cond_both, ltb-true, ltb-false}
use Rattle.jiff_core.specs.declared.civil.date.Date.{Date}
use Rattle.jiff_core.specs.Calendar.{days_in_year, days_in_month, day_count, days_from_civil}
use Rattle.jiff_core.specs.Date.{epoch_day}
use Rattle.jiff_core.proofs.SignedLemmas.{signed_arith, one_part}
use Rattle.jiff_core.proofs.DateLemmas.{civil, epoch_day_injective}
use Rattle.jiff_core.proofs.CalendarLemmas.{day_count-next_month, day_count-next_year, day_count-day, day_count-last_of_year, day_count-end}
use Rattle.jiff_core.proofs.CalendarLemmas.{day_count-later_year, day_count-day_of_year, day_count_bounds, days_from_civil-day_count}
use Rattle.jiff_core.proofs.MarchLemmas.{day_count-early}
use Rattle.td_civil.specs.Calendar.{Civil, month_after, year_after, date_of}

-- a date of the years 0 to 9999
pub record IsDated (c : Civil) : Type 0 where
  pub year : c.year ≤ 9999
  pub month : (1 ≤ c.month) × (c.month ≤ 12)
  pub day : (1 ≤ c.day) × (c.day ≤ days_in_month (pos c.year) c.month)

-- such a date with its day count
pub record HasCount (c : Civil) (n : ℕ) : Type 0 where
  pub dated : IsDated c
  pub count : day_count (pos c.year) c.month c.day ≡ n

abbrev dated : ℕ → ℕ → ℕ → Civil
dated y m d = record { year = y; month = m; day = d }

counted_day : (y m days n : ℕ) → y ≤ 9999 → 1 ≤ m → m ≤ 12 → days < days_in_month (pos y) m → n ≡ days + day_count (pos y) m 1
    → HasCount (dated y m (days + 1)) n
counted_day y m days n year low high lt e = record {
  dated = record { year = year; month = (low, high); day = (omega arith, omega arith) };
  count = omega (arith, day_count-day (pos y) m (days + 1) 1 (omega arith) (omega arith));
}

month_after_counts : (more y m days n : ℕ) → y ≤ 9999 → 1 ≤ m → m + more ≡ 12 → n ≡ days + day_count (pos y) m 1
    → n < day_count (pos y) 1 1 + days_in_year (pos y) → HasCount (month_after more y m days) n
unfolding month_after
month_after_counts zero y m days n year low bound e within =
    let last : m ≡ 12 = omega arith in
    let here : n ≡ days + day_count (pos y) 12 1 = rw last at e in
    let lt : days < 31 = omega (arith, day_count-last_of_year (pos y), day_count-day (pos y) 12 31 1 (omega arith) (omega arith)) in
    rw last (counted_day y 12 days n year (omega arith) (omega arith) lt here)
month_after_counts (suc more) y m days n year low bound e within =
    cond_both (nat_lt days (days_in_month (pos y) m)) (dated y m (days + 1)) (month_after more y (m + 1) (days - days_in_month (pos y) m)) (λ c. HasCount c n)
    (λ lt. counted_day y m days n year low (omega arith) (ltb-true _ _ lt) e)
    (λ ge. let le = ltb-false _ _ ge in
    month_after_counts more y (m + 1) (days - days_in_month (pos y) m) n year (omega arith) (omega arith) (omega (arith, day_count-next_month (pos y) m low))
    within)

count_zero : day_count (pos 0) 1 1 ≡ 3652425
count_zero = day_count-early (pos 0) 9999 1 1 refl (omega arith) (omega arith) (omega arith)

year_after_counts : (more y days n : ℕ) → y + more ≡ 9999 → n ≡ days + day_count (pos y) 1 1 → n < 7304850 → HasCount (year_after more y days) n
unfolding year_after
year_after_counts zero y days n bound e within =
    let next = day_count-next_year (pos 9999) (pos 10000) (omega (arith, signed_arith)) refl in
    let last : y ≡ 9999 = omega arith in
    let here : n ≡ days + day_count (pos 9999) 1 1 = rw last at e in
    rw last (month_after_counts 11 9999 1 days n (omega arith) (omega arith) refl here (omega (arith, day_count-end)))
year_after_counts (suc more) y days n bound e within =
    cond_both (nat_lt days (days_in_year (pos y))) (month_after 11 y 1 days) (year_after more (y + 1) (days - days_in_year (pos y))) (λ c. HasCount c n)
    (λ lt. let less = ltb-true _ _ lt in month_after_counts 11 y 1 days n (omega arith) (omega arith) refl e (omega arith))
    (λ ge. let le = ltb-false _ _ ge in
    let next : pos (y + 1) ≡ pos y +ℤ pos 1 = omega (arith, signed_arith) in
    year_after_counts more (y + 1) (days - days_in_year (pos y)) n (omega arith)
    (omega (arith, day_count-next_year (pos y) (pos (y + 1)) (omega (arith, signed_arith)) next)) within)

-- the date that counting gives has so many days before it, from 0000-01-01 on
pub date_of_counts : (n : ℕ) → n < 3652425 → HasCount (date_of n) (n + 3652425)
date_of_counts n h = year_after_counts 9999 0 n (n + 3652425) refl (omega (arith, count_zero)) (omega arith)

plain : (c : Civil) → IsDated c → Date
plain c h = record {
  year = pos c.year;
  month = c.month;
  day = c.day;
  year_in = (omega (arith, signed_arith, h.year), omega (arith, signed_arith, h.year));
  month_in = h.month;
  day_in = h.day;
}

same_parts : (y m d y₂ m₂ d₂ : ℕ) → y ≡ y₂ → m ≡ m₂ → d ≡ d₂ → dated y m d ≡ dated y₂ m₂ d₂
same_parts y m d y₂ m₂ d₂ year month day = rw (year, month, day) refl

-- two dates with one day count are one
pub one_date : (a b : Civil) → IsDated a → IsDated b → day_count (pos a.year) a.month a.day ≡ day_count (pos b.year) b.month b.day → a ≡ b
unfolding plain
one_date a b h k e =
    let same = epoch_day_injective (plain a h) (plain b k) (omega (arith, signed_arith, days_from_civil-day_count)) in
    let year : a.year ≡ b.year = omega (arith, signed_arith, same.0) in
    same_parts a.year a.month a.day b.year b.month b.day year same.1 same.2

year_start : (y : ℕ) → 3652425 ≤ day_count (pos y) 1 1
year_start zero = omega (arith, count_zero)
year_start (suc y) = omega (arith, count_zero, day_count-later_year (pos 0) (pos (suc y)) (omega (arith, signed_arith)) (omega (arith, signed_arith)))

-- a date of jiff with that day number is the one that counting gives
pub plain_date_is : (d : Date) (n : ℕ) → n < 3652425 → epoch_day d +ℤ pos 4_371_587 ≡ pos (n + 3652059)
    → (d.year ≡ pos (date_of n).year) × (d.month ≡ (date_of n).month) × (d.day ≡ (date_of n).day)
unfolding plain
plain_date_is d n within e =
    let found = date_of_counts n within in
    epoch_day_injective d (plain (date_of n) found.dated) (omega (arith, signed_arith, found.count, days_from_civil-day_count))

-- the day counts of the years 0 to 9999
pub dated_bounds : (c : Civil) → IsDated c → (3652425 ≤ day_count (pos c.year) c.month c.day) × (day_count (pos c.year) c.month c.day < 7304850)
unfolding plain
dated_bounds c h =
    let most = day_count_bounds (pos c.year) c.month c.day (civil (plain c h)) in
    let place = day_count-day_of_year (pos c.year) c.month c.day h.day.0 in
    let first : 3652425 ≤ day_count (pos c.year) 1 1 = year_start c.year in
    (omega (arith, h.day), omega arith)

-- the date that counting gives has the day number that was counted
pub date_of_number : (z : ℤ) → pos 0 ≤ℤ (z +ℤ pos 719528) → z ≤ℤ pos 2932896
    → z ≡ days_from_civil (pos (date_of (unsigned_abs (z +ℤ pos 719528))).year) (date_of (unsigned_abs (z +ℤ pos 719528))).month
    (date_of (unsigned_abs (z +ℤ pos 719528))).day
date_of_number z low high =
    let is = one_part (z +ℤ pos 719528) in
    let found = date_of_counts (unsigned_abs (z +ℤ pos 719528)) (omega (arith, signed_arith, is)) in
    omega (arith, signed_arith, is, found.count, days_from_civil-day_count)
