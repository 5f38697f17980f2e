-- The rule of a carried date falls, in each year, on the day of the date, moved by the whole days
-- of its time.
use Rattle.std.proofs.Common.{◌≡◌, ℕ, ◌+◌, ◌<◌, ◌≤◌, false, true≢false, inl, inr, refl, sym, subst, ap, ◌∙◌, arith, ℤ, pos, ◌+ℤ◌, ◌≤ℤ◌}
use Rattle.std.specs.Ordering.{int_eq}
use Rattle.std.proofs.lemmas.Bool.{cond_both}
use Rattle.std.proofs.lemmas.Int.{ints}
use Rattle.jiff_core.specs.Calendar.{days_in_year, days_from_civil, IsYear}
use Rattle.jiff_core.proofs.SignedLemmas.{signed_arith, one_part}
use Rattle.jiff_core.proofs.MarchLemmas.{leap_day, days_in_year-leap_day}
use Rattle.jiff_core.proofs.CalendarLemmas.{weekday_number-parts}
use Rattle.posix_footer.specs.declared.rule_types.DayForm.{DayForm}
use Rattle.posix_footer.specs.declared.rule_types.DayForm.TheVariants as day
use Rattle.posix_footer.specs.declared.rule_types.Date.{Date}
use Rattle.posix_footer.specs.Lawful.{IsLawfulDay}
use Rattle.posix_footer.specs.Onset.{day_number, IsDayNamed}
use Rattle.recurrence.specs.declared.rule_types.Form.{Form}
use Rattle.recurrence.specs.Falls.{Falls, IsOfYear, IsWeekday}
use Rattle.recurrence.specs.Valid.{IsValidForm}
use Rattle.posix_footer.specs.Carried.{moved_by, is_by_number}
use Rattle.posix_footer.specs.Onset.{first_place, more_places}
use Rattle.recurrence.specs.RuleOfDate.{row_place, form_of, turned}
use Rattle.posix_footer.proofs.lemmas.OnsetLemmas.{month_day_is, named}
use Rattle.recurrence.proofs.Places.{first_early, first_late}
use Rattle.recurrence.proofs.Rows.{Keeps, IsRowOf, IsSpotOf, spot_of, row_of, nth_of}
use Rattle.recurrence.proofs.Steady.{IsEarly, IsLate, IsSteady}
use Rattle.recurrence.proofs.Windows.{row_falls}

-- the place in the year of the first moved day
pub record IsMoved (d : DayForm) (k y : ℤ) : Type 0 where
  pub place : ℕ
  pub is : pos place ≡ pos (first_place d y) +ℤ k
  pub keeps : Keeps y (row_place d k) place (more_places d)
  pub inside : place + more_places d < days_in_year y
  pub common : pos (row_place d k) ≡ pos (first_place d (pos 2001)) +ℤ k
  pub low : 2 ≤ place
  pub high : place + more_places d + 3 ≤ days_in_year y

place_is : (d : DayForm) (k : ℤ) → pos 0 ≤ℤ (pos (first_place d (pos 2001)) +ℤ k) → pos (row_place d k) ≡ pos (first_place d (pos 2001)) +ℤ k
place_is d k h = omega (arith, signed_arith, one_part (pos (first_place d (pos 2001)) +ℤ k))

moved_early : (date : Date) (y : ℤ) → IsLawfulDay date.day → IsEarly date → IsMoved date.day (moved_by date.time) y
moved_early date y h early =
    let first = first_early date.day y h early.same (omega (arith, early.last)) in
    let common = place_is date.day (moved_by date.time) (omega (arith, signed_arith, early.moved_first)) in
    let last : row_place date.day (moved_by date.time) + more_places date.day ≤ 58 = omega (arith, signed_arith, common, early.moved_last) in
    record {
      place = row_place date.day (moved_by date.time);
      is = common ∙ ap (λ p. pos p +ℤ moved_by date.time) (sym first);
      keeps = inl (last, refl);
      inside = omega (arith, last, days_in_year-leap_day y);
      common = common;
      low = omega (arith, signed_arith, common, early.moved_first);
      high = omega (arith, last, days_in_year-leap_day y);
    }

moved_late : (date : Date) (y : ℤ) → IsLawfulDay date.day → IsLate date → IsMoved date.day (moved_by date.time) y
moved_late date y h late =
    let first = first_late date.day y h late.same late.first in
    let common = place_is date.day (moved_by date.time) (omega (arith, signed_arith, late.moved_first)) in
    let low : 59 ≤ row_place date.day (moved_by date.time) = omega (arith, signed_arith, common, late.moved_first) in
    let last : row_place date.day (moved_by date.time) + more_places date.day ≤ 362 = omega (arith, signed_arith, common, late.moved_last) in
    record {
      place = row_place date.day (moved_by date.time) + leap_day y;
      is = omega (arith, signed_arith, common, first);
      keeps = inr (low, omega (arith, last), refl);
      inside = omega (arith, last, days_in_year-leap_day y);
      common = common;
      low = omega (arith, low);
      high = omega (arith, last, days_in_year-leap_day y);
    }

pub moved_is : (date : Date) (y : ℤ) → IsLawfulDay date.day → IsSteady date → IsMoved date.day (moved_by date.time) y
moved_is date y h steady = elim (steady.side) [
  | inl early ↦ moved_early date y h early
  | inr late ↦ moved_late date y h late
]

-- what is proved of a moved day
pub record IsRuleDay (f : Form) (y number : ℤ) : Type 0 where
  pub valid : IsValidForm f
  pub within : IsOfYear y number
  pub falls : Falls f number

pub moved_number : (d : DayForm) (k y : ℤ) → (moved : IsMoved d k y) → (name : IsDayNamed d y)
    → (day_number d y +ℤ k) ≡ days_from_civil y 1 1 +ℤ pos (moved.place + name.after)
moved_number d k y moved name = omega (arith, signed_arith, moved.is, name.number)

spot_day : (f : Form) (y number : ℤ) (p : ℕ) → IsYear y → IsSpotOf f y p → p < days_in_year y → number ≡ days_from_civil y 1 1 +ℤ pos p
    → IsRuleDay f y number
spot_day f y number p year spot inside e = record {
  valid = spot.valid;
  within = (omega (arith, signed_arith), omega (arith, signed_arith));
  falls = row_falls f y number p year spot.valid inside e (spot.row p number refl);
}

row_day : (f : Form) (y number : ℤ) (p w after : ℕ) → IsYear y → IsRowOf f y p w → p + 6 < days_in_year y → after ≤ 6 → IsWeekday w number
    → number ≡ days_from_civil y 1 1 +ℤ pos (p + after) → IsRuleDay f y number
row_day f y number p w after year row inside among is e = record {
  valid = row.valid;
  within = (omega (arith, signed_arith), omega (arith, signed_arith));
  falls = row_falls f y number (p + after) year row.valid (omega arith) e (row.row (p + after) number is (omega arith) (omega arith));
}

turned_is : (w : ℕ) (k day moved : ℤ) → w ≤ 6 → IsWeekday w day → moved ≡ day +ℤ k → IsWeekday (turned w k) moved × (turned w k ≤ 6)
turned_is w k day moved h is e =
    (omega (arith, signed_arith, weekday_number-parts day, weekday_number-parts moved), omega (arith, signed_arith))

pub rule_day : (d : DayForm) (k y : ℤ) → IsLawfulDay d → IsYear y → is_by_number d ≡ false → IsMoved d k y → IsRuleDay (form_of d k) y (day_number d y +ℤ k)
rule_day (day.Julian n) k y h year steady moved =
    let name = named (day.Julian n) y h in
    let number = moved_number (day.Julian n) k y moved name in
    let spot = spot_of y (row_place (day.Julian n) k) moved.place moved.keeps in
    spot_day _ y _ moved.place year spot (omega (arith, moved.inside)) (omega (arith, signed_arith, number, name.among))
rule_day (day.YearDay n) k y h year steady moved = absurd (true≢false steady)
rule_day (day.Week m week w) k y h year steady moved =
    let name = named (day.Week m week w) y h in
    let number = moved_number (day.Week m week w) k y moved name in
    let is = month_day_is y m week w h.2 h.4 in
    let turn = turned_is w k (day_number (day.Week m week w) y) (day_number (day.Week m week w) y +ℤ k) h.4 is.0 refl in
    cond_both (int_eq k (pos 0)) _ _ (λ f. IsRuleDay f y (day_number (day.Week m week w) y +ℤ k))
    (λ still. let none : k ≡ pos 0 = grind (arith, ints) in
    let same : moved.place ≡ first_place (day.Week m week w) y = omega (arith, signed_arith, moved.is, none) in
    let stays : day_number (day.Week m week w) y ≡ day_number (day.Week m week w) y +ℤ k = omega (arith, signed_arith, none) in
    let row = nth_of y m week w h in
    row_day _ y _ (first_place (day.Week m week w) y) w name.after year row (omega (arith, moved.inside, same)) name.among (subst (IsWeekday w) stays is.0)
    (omega (arith, signed_arith, number, same)))
    (λ moves. row_day _ y _ moved.place (turned w k) name.after year
    (row_of y (row_place (day.Week m week w) k) moved.place (turned w k) turn.1 moved.keeps) moved.inside name.among turn.0 number)
