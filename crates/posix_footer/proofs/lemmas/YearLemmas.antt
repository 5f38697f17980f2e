-- The year of a moment in UTC.
use Rattle.std.proofs.Common.{◌≡◌, refl, arith, ℤ, pos, neg_ℤ, ◌+ℤ◌, ◌*ℤ◌, ◌<ℤ◌, ◌≤ℤ◌}
use Rattle.std.proofs.lemmas.Int.{by_lt_z}
use Rattle.td_civil.specs.Bounds.{HasMeaning}
use Rattle.jiff_core.specs.Calendar.{days_from_civil, IsBetween}
use Rattle.jiff_core.proofs.MarchLemmas.{day_count-early}
use Rattle.jiff_core.proofs.SignedLemmas.{signed_arith}
use Rattle.jiff_core.proofs.CalendarLemmas.{days_from_civil-day_count, day_count-later_year, day_count-next_year}

-- 1 January of the first year and of the last one
pub year_1800 : days_from_civil (pos 1800) 1 1 ≡ neg_ℤ (pos 62091)
year_1800 = omega (arith, signed_arith, days_from_civil-day_count, day_count-early (pos 1800) 11799 1 1 refl (omega arith) (omega arith) (omega arith))

pub year_9999 : days_from_civil (pos 9999) 1 1 ≡ pos 2932532
year_9999 = omega (arith, signed_arith, days_from_civil-day_count, day_count-early (pos 9999) 19998 1 1 refl (omega arith) (omega arith) (omega arith))

-- the year in which a moment lies that has a meaning
pub year_in_range : (y t : ℤ) → neg_ℤ (pos 9999) ≤ℤ y → HasMeaning t
    → (days_from_civil y 1 1 *ℤ pos 86400) ≤ℤ t → t <ℤ (days_from_civil (y +ℤ pos 1) 1 1 *ℤ pos 86400) → IsBetween (pos 1800) (pos 9998) y
year_in_range y t bound h begun ahead =
    let first : neg_ℤ (pos 5364662400) ≤ℤ t = h.0 in
    let end : t <ℤ pos 253370764800 = h.1 in
    let low : pos 1800 ≤ℤ y = by_lt_z y (pos 1800)
    (λ lt. absurd (omega (
      arith,
      signed_arith,
      year_1800,
      days_from_civil-day_count,
      day_count-later_year y (pos 1800) (omega (arith, signed_arith)) lt,
      day_count-next_year y (y +ℤ pos 1) (omega (arith, signed_arith)) refl,
    )))
    (λ le. le) in
    let high : y ≤ℤ pos 9998 = by_lt_z (pos 9999) y
    (λ lt. absurd (omega (
      arith,
      signed_arith,
      year_9999,
      days_from_civil-day_count,
      day_count-later_year (pos 9999) y (omega (arith, signed_arith)) lt,
    )))
    (λ le. by_lt_z y (pos 9999) (λ lt. omega (arith, signed_arith))
    (λ ge. let last : y ≡ pos 9999 = omega (arith, signed_arith) in
    let late = rw last at begun in absurd (omega (arith, signed_arith, year_9999)))) in
    (low, high)
