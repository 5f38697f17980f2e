-- The year that clocks show, or 1800 before it.
use Rattle.std.proofs.Common.{◌≡◌, inl, inr, ℕ, ◌≤◌, refl, sym, ◌∙◌, subst, arith, ℤ, pos, ◌≤ℤ◌, ◌<ℤ◌}
use Rattle.std.specs.Int.{int_max}
use Rattle.std.proofs.lemmas.Int.{ints, by_lt_z}
use Rattle.jiff_core.specs.Calendar.{days_from_civil, day_of_year, IsCivilDate}
use Rattle.jiff_core.proofs.SignedLemmas.{signed_arith}
use Rattle.jiff_core.proofs.CalendarLemmas.{days_from_civil-day_count, day_count-later_year, day_count-day_of_year, day_of_year_bound}
use Rattle.recurrence.specs.Falls.{IsOfYear}
use Rattle.vtimezone_reader.specs.Observing.{IsYearShown}
use Rattle.vtimezone_reader.specs.Onsets.{day_shown}
use Rattle.vtimezone_reader.proofs.RuleOnsets.{year_turn}

day_of_year_low : (y : ℤ) (m d : ℕ) → 1 ≤ d → 1 ≤ day_of_year y m d
day_of_year_low y m d h = omega arith

-- a date lies in its year
pub date_in_year : (y : ℤ) (m d : ℕ) → IsCivilDate y m d → IsOfYear y (days_from_civil y m d)
date_in_year y m d h =
    let place = day_count-day_of_year y m d h.2.0 in
    let last = day_of_year_bound y m d h in
    let first = h.2.0 in (
      omega (arith, signed_arith, days_from_civil-day_count, place, last, first, day_of_year_low y m d first),
      omega (arith, signed_arith, days_from_civil-day_count, place, last, first),
    )

max_low : (a b : ℤ) → a <ℤ b → int_max a b ≡ b
max_low a b h = grind (arith, ints)

max_high : (a b : ℤ) → b ≤ℤ a → int_max a b ≡ a
max_high a b h = grind (arith, ints)

pub shown_year : (o t from y : ℤ) (m d : ℕ) → IsCivilDate from m d → day_shown o t ≡ days_from_civil from m d → y ≡ int_max from (pos 1800) → IsYearShown o t y
shown_year o t from y m d h day max =
    let within = date_in_year from m d h in
    let year = h.0 in
    by_lt_z from (pos 1800)
    (λ before.
    let is : y ≡ pos 1800 = max ∙ max_low from (pos 1800) before in
    let P : ℤ → Type 0 = λ k. IsYearShown o t k in
    let later = day_count-later_year from (pos 1800) (omega (arith, signed_arith, year)) before in
    let turn = year_turn (pos 1800) (omega (arith, signed_arith), omega (arith, signed_arith)) in
    let early : day_shown o t <ℤ days_from_civil (pos 1800) 1 1 = omega (arith, signed_arith, day, within.1, later, days_from_civil-day_count) in
    subst P (sym is) (record {
      low = omega (arith, signed_arith);
      high = omega (arith, signed_arith);
      before = omega (arith, signed_arith, early, turn);
      begun = inr (refl, early);
    }))
    (λ after.
    let is : y ≡ from = max ∙ max_high from (pos 1800) after in
    let P : ℤ → Type 0 = λ k. IsYearShown o t k in
    let turn = year_turn from year in
    subst P (sym is) (record {
      low = after;
      high = omega (arith, signed_arith, year);
      before = omega (arith, signed_arith, day, within.1, turn);
      begun = inl (omega (arith, signed_arith, day, within.0));
    }))
