-- The calendar repeats in 400 years.
use Rattle.std.proofs.Common.{◌≡◌, ℕ, zero, suc, ◌+◌, ◌-◌, ◌*◌, ◌%◌, ◌≤◌, ◌==◌, true, false, ◌&&◌, ◌||◌, cond, not, if◌then◌else◌, refl, sym, ap, ◌∙◌}
use Rattle.std.proofs.Common.{arith, ℤ, pos, ◌+ℤ◌, ◌*ℤ◌, ◌≤ℤ◌, ◌<ℤ◌, ◌/◌, List, [], ◌∷◌, slice_index_or}
use Rattle.jiff_core.specs.Calendar.{is_leap_year, days_in_month, days_of_years, days_of_months, day_of_year, day_count, days_from_civil}
use Rattle.jiff_core.specs.March.{march_days}
use Rattle.jiff_core.proofs.SignedLemmas.{signed_arith}
use Rattle.jiff_core.proofs.MarchLemmas.{leap_day, days_of_years-march_days, day_count-early}
use Rattle.jiff_core.proofs.CalendarLemmas.{days_from_civil-day_count}
use Rattle.td_civil.specs.Bounds.{IsWithinBounds}
use Rattle.td_civil.specs.Calendar.{stamp_of, text_of}
use Rattle.td_civil.specs.Reading.{two_at}
use Rattle.td_civil.specs.Stamp.{Stamp, IsStamp, Spells, moment_at, spelling, four_digits}
use Rattle.td_civil.specs.declared.moment_type.TheConstants.{CYCLE}
use Rattle.std.proofs.lemmas.Int.{by_lt_z}
use Rattle.td_civil.proofs.lemmas.Shown.{bounds_text, shown_year, spelled_text, stamp_of_valid, stamp_of_moment}
use Rattle.td_civil.proofs.lemmas.Years.{year_is_long}

plus_same : (a b c d : ℕ) → a ≡ c → b ≡ d → a + b ≡ c + d
plus_same a b c d p q = ap (λ x. x + b) p ∙ ap (λ x. c + x) q

pub leap_again : (n : ℕ) → is_leap_year (pos (n + 400)) ≡ is_leap_year (pos n)
leap_again n =
    let four : (n + 400) % 4 ≡ n % 4 = omega arith in
    let hundred : (n + 400) % 100 ≡ n % 100 = omega arith in
    let all : (n + 400) % 400 ≡ n % 400 = omega arith in
    leap_by ((n + 400) % 4) ((n + 400) % 100) ((n + 400) % 400) (n % 4) (n % 100) (n % 400) four hundred all
  where
    leap_by : (a b c x y z : ℕ) → a ≡ x → b ≡ y → c ≡ z → ((a == 0) && (not (b == 0) || (c == 0))) ≡ ((x == 0) && (not (y == 0) || (z == 0)))
    leap_by a b c x y z p q r = rw (p, q, r) refl

pub month_again : (n m : ℕ) → days_in_month (pos (n + 400)) m ≡ days_in_month (pos n) m
month_again n m =
    ap (λ b. if m == 2 then (if b then 29 else 28) else (if (m == 4) || (m == 6) || (m == 9) || (m == 11) then 30 else 31)) (leap_again n)

months_again : (n m : ℕ) → days_of_months (pos (n + 400)) m ≡ days_of_months (pos n) m
unfolding days_of_months
months_again n zero = refl
months_again n (suc m) = plus_same _ _ _ _ (months_again n m) (month_again n (suc m))

years_by : (n a b k l : ℕ) → a + k ≡ march_days (n + 400) + 1 → b + l ≡ march_days n + 1 → k ≡ l → a ≡ b + 146097
years_by n a b k l late now same = omega arith

years_again : (n : ℕ) → days_of_years (n + 400) ≡ days_of_years n + 146097
years_again n =
    years_by n _ _ (leap_day (pos (n + 400))) (leap_day (pos n)) (days_of_years-march_days (n + 400)) (days_of_years-march_days n)
    (ap (λ b. cond b 1 0) (leap_again n))

count_by : (a b x y : ℕ) → a ≡ b + 146097 → x ≡ y → a + (x - 1) ≡ b + (y - 1) + 146097
count_by a b x y years same = rw (years, same) (omega arith)

count_again : (n m d : ℕ) → day_count (pos (n + 400)) m d ≡ day_count (pos n) m d + 146097
unfolding day_count
count_again n m d =
    let at : n + 400 + 10000 ≡ n + 10000 + 400 = omega arith in
    count_by (days_of_years (n + 400 + 10000)) (days_of_years (n + 10000)) (day_of_year (pos (n + 400)) m d) (day_of_year (pos n) m d)
    (ap days_of_years at ∙ years_again (n + 10000)) (ap (λ k. k + d) (months_again n (m - 1)))

-- a date comes again 146,097 days later
pub days_again : (n m d : ℕ) → days_from_civil (pos (n + 400)) m d ≡ days_from_civil (pos n) m d +ℤ pos 146097
days_again n m d = omega (
  arith,
  signed_arith,
  count_again n m d,
  days_from_civil-day_count (pos (n + 400)) m d,
  days_from_civil-day_count (pos n) m d,
)

-- ---- texts of moments

-- the fields a period later: the year alone is another
abbrev stamp_later : Stamp → Stamp
stamp_later s = record { year = s.year + 400; month = s.month; day = s.day; hour = s.hour; minute = s.minute; second = s.second }

moment_by : (d later : ℤ) (n : ℕ) → later ≡ d +ℤ pos 146097 → (later *ℤ pos 86400) +ℤ pos n ≡ ((d *ℤ pos 86400) +ℤ pos n) +ℤ pos 12622780800
moment_by d later n is = omega (arith, signed_arith)

stamp_moment : (s : Stamp) → moment_at (stamp_later s) ≡ moment_at s +ℤ pos 12622780800
stamp_moment s =
    moment_by (days_from_civil (pos s.year) s.month s.day) (days_from_civil (pos (s.year + 400)) s.month s.day) (3600 * s.hour + 60 * s.minute + s.second)
    (days_again s.year s.month s.day)

stamp_valid : (s : Stamp) → IsStamp s → s.year + 400 ≤ 9999 → IsStamp (stamp_later s)
stamp_valid s h year = record {
  year = year;
  month = h.month;
  day = (h.day.0, omega (arith, h.day.1, month_again s.year s.month));
  hour = h.hour;
  minute = h.minute;
  second = h.second;
}

count_9599 : day_count (pos 9599) 1 1 ≡ 7_158_388
count_9599 = day_count-early (pos 9599) 19598 1 1 refl (omega arith) (omega arith) (omega arith)

-- where the moment a period later is none after the last, the year is none after 9599
early_year : (m : ℤ) → IsWithinBounds m → IsWithinBounds (m +ℤ CYCLE) → (stamp_of m).year + 400 ≤ 9999
early_year m here later =
    let y = (stamp_of m).year in
    let inside = shown_year m (bounds_text m here) in
    let end : (m +ℤ pos 12622780800) ≤ℤ pos 253370764800 = later.1 in
    by_lt_z (pos 9599) (pos y)
    (λ lt. absurd (omega (
      arith,
      signed_arith,
      year_is_long (pos 9599) (pos y) (omega (arith, signed_arith), omega (arith, signed_arith)) lt,
      days_from_civil-day_count (pos 9599) 1 1,
      count_9599,
      inside.0,
      end,
    )))
    (λ ge. omega (arith, signed_arith))

-- a moment's text is that of the fields a period earlier, with the later year
pub text_again : (m : ℤ) → IsWithinBounds m → IsWithinBounds (m +ℤ CYCLE) → text_of (m +ℤ CYCLE) ≡ spelling (stamp_later (stamp_of m))
text_again m here later =
    let year = early_year m here later in
    let s = stamp_of m in
    let valid = stamp_of_valid m (bounds_text m here) in
    let spells : Spells (spelling (stamp_later s)) (m +ℤ CYCLE) = record {
      stamp = stamp_later s;
      valid = stamp_valid s valid year;
      text_is = refl;
      moment_is = ap (λ k. k +ℤ pos 12622780800) (stamp_of_moment m (bounds_text m here)) ∙ sym (stamp_moment s);
    } in
    sym (spelled_text _ _ spells)

digits_later : (y c : ℕ) → y + 400 ≤ 9999 → c ≡ 10 * (48 + y / 1000 % 10 - 48) + (48 + y / 100 % 10 - 48) + 4
    → (48 + c / 10 % 10 ≡ 48 + (y + 400) / 1000 % 10) × (48 + c % 10 ≡ 48 + (y + 400) / 100 % 10)
    × (48 + y / 10 % 10 ≡ 48 + (y + 400) / 10 % 10) × (48 + y % 10 ≡ 48 + (y + 400) % 10)
digits_later y c h is = (omega arith, omega arith, omega arith, omega arith)

-- the same text by its digits
pub later_made : (text : List ℕ) (century high low : ℕ) (m : ℤ) → IsWithinBounds m → IsWithinBounds (m +ℤ CYCLE) → text ≡ text_of m
    → century ≡ two_at text 0 + 4 → high ≡ 48 + century / 10 % 10 → low ≡ 48 + century % 10
    → high ∷ low ∷ slice_index_or text 2 0 ∷ slice_index_or text 3 0 ∷ slice_index_or text 4 0 ∷ slice_index_or text 5 0 ∷ slice_index_or text 6 0
    ∷ slice_index_or text 7 0 ∷ slice_index_or text 8 0 ∷ slice_index_or text 9 0 ∷ slice_index_or text 10 0 ∷ slice_index_or text 11 0
    ∷ slice_index_or text 12 0 ∷ slice_index_or text 13 0 ∷ slice_index_or text 14 0 ∷ slice_index_or text 15 0 ∷ slice_index_or text 16 0
    ∷ slice_index_or text 17 0 ∷ slice_index_or text 18 0 ∷ slice_index_or text 19 0 ∷ []
    ≡ text_of (m +ℤ CYCLE)
unfolding text_of
later_made text century high low m here later is century_is high_is low_is =
    let s = stamp_of m in
    let shown : century ≡ two_at (spelling s) 0 + 4 = rw is at century_is in
    let d = digits_later s.year century (early_year m here later) shown in
    rw (is, high_is, low_is, d.0, d.1, d.2, d.3) refl ∙ sym (text_again m here later)
