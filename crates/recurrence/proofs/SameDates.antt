-- The test of a date says that its days are the same in every year.
use Rattle.std.proofs.Common.{◌≡◌, ℕ, ◌+◌, ◌-◌, ◌<◌, ◌≤◌, ◌⊎◌, Bool, true, false, not, ◌&&◌, ◌||◌, inl, inr, ap, arith, ℤ, pos, ◌+ℤ◌, ◌≤ℤ◌, int_le, ◌↔◌}
use Rattle.std.specs.Ordering.{int_eq}
use Rattle.std.proofs.lemmas.Bool.{cases_lt, cases_order, and_from, or_left, or_right}
use Rattle.std.proofs.lemmas.Int.{ints}
use Rattle.jiff_core.specs.Calendar.{days_of_months, days_from_civil, IsYear, IsCivilDate}
use Rattle.jiff_core.proofs.SignedLemmas.{signed_arith}
use Rattle.jiff_core.proofs.CalendarLemmas.{days_of_months_table, day_of_year_bound, day_of_year_before}
use Rattle.posix_footer.specs.declared.rule_types.DayForm.{DayForm}
use Rattle.posix_footer.specs.declared.rule_types.Date.{Date}
use Rattle.posix_footer.specs.Lawful.{IsLawfulDay, IsLawfulDate}
use Rattle.posix_footer.specs.Carried.{moved_by, moved_first, moved_last, keeps_early, keeps_late, is_early, is_late_date, is_steady, is_by_number}
use Rattle.posix_footer.specs.Onset.{first_place, more_places}
use Rattle.recurrence.specs.RuleOfDate.{row_place, common_date}
use Rattle.recurrence.specs.SameDates.{possible_day, IsOneDate, IsInside, HasSameDates}
use Rattle.recurrence.proofs.Months.{leap_2004, months_early, months_late, months_late_bound, common_date_is}
use Rattle.recurrence.proofs.Places.{first_early, first_late}
use Rattle.recurrence.proofs.Rows.{Keeps, date_keeps, february_28, within_common}
use Rattle.recurrence.proofs.Steady.{IsSteady, steady_is}
use Rattle.recurrence.proofs.Carrying.{moved_is}
use Rattle.recurrence.proofs.Windows.{day_at_place, common_length}

narrower : (y : ℤ) (common p more i : ℕ) → i ≤ more → Keeps y common p more → Keeps y (common + i) (p + i) 0
narrower y common p more i h (inl early) = inl (omega arith, omega arith)
narrower y common p more i h (inr late) = inr (omega arith, omega arith, omega arith)

-- a row that keeps its place has one date at each of its days
one_date : (form : DayForm) (k : ℤ) (i common : ℕ) (place : ℤ → ℕ) → i ≤ more_places form → common + more_places form < 365
    → ((y : ℤ) → pos (place y) ≡ pos (first_place form y) +ℤ k) → ((y : ℤ) → Keeps y common (place y) (more_places form)) → IsOneDate form k i
one_date form k i common place h inside at keeps =
    let c = common_date_is (common + i) (omega arith) in
    let m = (common_date (common + i)).month in
    let d = (common_date (common + i)).day in
    record {
      month = m;
      date = d;
      there = λ y year. (year, c.month, (c.day.0, let long = common_length y m in omega (arith, long, c.day.1)));
      is = λ y year.
          let same = date_keeps y m d (common + i) (place y + i) 0 c.month.0 c.month.1 c.day.0 c.day.1 c.place
          (narrower y common (place y) (more_places form) i h (keeps y)) in
          omega (arith, signed_arith, at y, same, day_at_place y m d c.day.0);
    }

-- of which the month is known
one_date_inside : (common i : ℕ) → 2 ≤ common → common + i ≤ 362 → IsInside (common_date (common + i)).month (common_date (common + i)).day
one_date_inside common i low high =
    let c = common_date_is (common + i) (omega arith) in
    let m = (common_date (common + i)).month in
    record {
      first = λ one. omega (arith, one, c.place, months_early (pos 2001) (m - 1) (omega arith));
      last = λ twelve.
          let begin : days_of_months (pos 2001) (m - 1) ≡ days_of_months (pos 2001) 11 = ap (λ k. days_of_months (pos 2001) (k - 1)) twelve in
          omega (arith, begin, c.place, days_of_months_table (pos 2001) 11 (omega arith));
    }

keeps_before : (d : Date) (y : ℤ) → IsLawfulDay d.day → IsSteady d → Keeps y (first_place d.day (pos 2001)) (first_place d.day y) (more_places d.day)
keeps_before d y h steady = elim (steady.side) [
  | inl early ↦ inl (early.last, first_early d.day y h early.same (omega (arith, early.last)))
  | inr late ↦ inr (late.first, late.last, first_late d.day y h late.same late.first)
]

moved_bounds : (d : Date) → IsLawfulDay d.day → IsSteady d
    → (2 ≤ row_place d.day (moved_by d.time)) × (row_place d.day (moved_by d.time) + more_places d.day ≤ 362)
moved_bounds d h steady =
    let moved = moved_is d (pos 2001) h steady in
    elim (steady.side) [
      | inl early ↦ (omega (arith, signed_arith, moved.common, early.moved_first), omega (arith, signed_arith, moved.common, early.moved_last))
      | inr late ↦ (omega (arith, signed_arith, moved.common, late.moved_first), omega (arith, signed_arith, moved.common, late.moved_last))
    ]

same_dates : (d : Date) → IsLawfulDate d → is_steady d ≡ true → HasSameDates d
unfolding one_date
same_dates d h e =
    let steady = steady_is d e in
    let bounds = moved_bounds d h.day steady in
    let common = row_place d.day (moved_by d.time) in
    record {
      not_by_number = steady.not_by_number;
      before = λ i le. one_date d.day (pos 0) i (first_place d.day (pos 2001)) (first_place d.day) le
          (within_common (pos 2001) (first_place d.day (pos 2001)) (first_place d.day (pos 2001)) (more_places d.day)
          (keeps_before d (pos 2001) h.day steady))
          (λ y. omega (arith, signed_arith)) (λ y. keeps_before d y h.day steady);
      after = λ i le. one_date d.day (moved_by d.time) i common (λ y. (moved_is d y h.day steady).place) le (omega (arith, bounds))
          (λ y. (moved_is d y h.day steady).is) (λ y. (moved_is d y h.day steady).keeps);
      inside = λ i le. one_date_inside common i bounds.0 (omega (arith, bounds, le));
    }

-- a date of every year lies before 29 February or after it
abbrev Sides : ℤ → ℤ → Type 0
Sides p q = ((q ≡ p) × (pos 0 ≤ℤ p) × (p ≤ℤ pos 58)) ⊎ ((q ≡ p +ℤ pos 1) × (pos 59 ≤ℤ p) × (p ≤ℤ pos 364))

common_year : IsYear (pos 2001)
common_year = (omega (arith, signed_arith), omega (arith, signed_arith))

leap_year : IsYear (pos 2004)
leap_year = (omega (arith, signed_arith), omega (arith, signed_arith))

place_in : (form : DayForm) (k y : ℤ) (i m d : ℕ) → 1 ≤ d → possible_day form k y i ≡ days_from_civil y m d
    → (pos (first_place form y + i) +ℤ k) ≡ pos (days_of_months y (m - 1) + d - 1)
place_in form k y i m d h e = omega (arith, signed_arith, e, day_at_place y m d h)

sides_of : (form : DayForm) (k : ℤ) (i : ℕ) → IsOneDate form k i
    → Sides (pos (first_place form (pos 2001) + i) +ℤ k) (pos (first_place form (pos 2004) + i) +ℤ k)
sides_of form k i one =
    let m = one.month in
    let d = one.date in
    let there = one.there (pos 2001) common_year in
    let p = place_in form k (pos 2001) i m d there.2.0 (one.is (pos 2001) common_year) in
    let q = place_in form k (pos 2004) i m d there.2.0 (one.is (pos 2004) leap_year) in
    elim (cases_lt m 3) [
      | inl lt ↦
          let begin = months_early (pos 2001) (m - 1) (omega arith) in
          let begin_leap = months_early (pos 2004) (m - 1) (omega arith) in
          let short = february_28 m (omega arith) there.1.0 in
          inl (omega (arith, signed_arith, p, q, begin, begin_leap), omega (arith, signed_arith, p), omega (arith, signed_arith, p, begin, short, there.2))
      | inr le ↦
          let later = months_late (pos 2004) (m - 1) (omega arith) (omega (arith, there.1)) in
          let low = months_late_bound (m - 1) (omega arith) (omega (arith, there.1)) in
          let high = day_of_year_bound (pos 2001) m d there in
          inr (
            omega (arith, signed_arith, p, q, later, leap_2004, there.2),
            omega (arith, signed_arith, p, low, there.2),
            omega
                (arith, signed_arith, p, high, there.2),
          )
    ]

early_side : (p q : ℤ) → Sides p q → q ≡ p → (pos 0 ≤ℤ p) × (p ≤ℤ pos 58)
early_side p q (inl early) e = (early.1, early.2)
early_side p q (inr late) e = absurd (omega (arith, signed_arith, late.0, e))

late_side : (p q : ℤ) → Sides p q → q ≡ p +ℤ pos 1 → (pos 59 ≤ℤ p) × (p ≤ℤ pos 364)
late_side p q (inl early) e = absurd (omega (arith, signed_arith, early.0, e))
late_side p q (inr late) e = (late.1, late.2)

low_inside : (m d : ℕ) → IsCivilDate (pos 2001) m d → IsInside m d → 2 ≤ days_of_months (pos 2001) (m - 1) + d - 1
low_inside m d there inside =
    elim (cases_order m 1) [
      | inl one ↦ omega (arith, inside.first one)
      | inr (inl lt) ↦ absurd (omega (arith, there.1))
      | inr (inr gt) ↦ elim (cases_lt m 3) [
        | inl lt ↦ omega (arith, months_early (pos 2001) (m - 1) (omega arith))
        | inr le ↦ omega (arith, months_late_bound (m - 1) (omega arith) (omega (arith, there.1)))
      ]
    ]

high_inside : (m d : ℕ) → IsCivilDate (pos 2001) m d → IsInside m d → days_of_months (pos 2001) (m - 1) + d - 1 ≤ 362
high_inside m d there inside =
    let last = days_of_months_table (pos 2001) 11 (omega arith) in
    elim (cases_order m 12) [
      | inl twelve ↦
          let begin : days_of_months (pos 2001) (m - 1) ≡ days_of_months (pos 2001) 11 = ap (λ k. days_of_months (pos 2001) (k - 1)) twelve in
          omega (arith, begin, inside.last twelve, last)
      | inr (inl lt) ↦ omega (arith, day_of_year_before (pos 2001) m d 11 there.1.0 there.2.1 (omega arith), last)
      | inr (inr gt) ↦ absurd (omega (arith, there.1))
    ]

equal_true : (a b : ℤ) → a ≡ b → int_eq a b ≡ true
equal_true a b e = grind (arith, ints)

pub most_true : (a b : ℤ) → a ≤ℤ b → int_le a b ≡ true
most_true a b e = grind (arith, ints)

three_from : (a b c : Bool) → a ≡ true → b ≡ true → c ≡ true → (a && b && c) ≡ true
three_from a b c x y z = and_from (a && b) c (and_from a b x y) z

keeps_early_true : (c l : ℤ) (n : ℕ) → l ≡ c → pos 0 ≤ℤ c → (c +ℤ pos n) ≤ℤ pos 58 → keeps_early c l n ≡ true
unfolding keeps_early
keeps_early_true c l n e low high =
    three_from (int_eq l c) (int_le (pos 0) c) (int_le (c +ℤ pos n) (pos 58)) (equal_true l c e) (most_true (pos 0) c low)
    (most_true (c +ℤ pos n) (pos 58) high)

keeps_late_true : (c l : ℤ) (n : ℕ) → l ≡ c +ℤ pos 1 → pos 59 ≤ℤ c → (c +ℤ pos n) ≤ℤ pos 364 → keeps_late c l n ≡ true
unfolding keeps_late
keeps_late_true c l n e low high =
    three_from (int_eq l (c +ℤ pos 1)) (int_le (pos 59) c) (int_le (c +ℤ pos n) (pos 364)) (equal_true l (c +ℤ pos 1) e) (most_true (pos 59) c low)
    (most_true (c +ℤ pos n) (pos 364) high)

steady_true : (d : Date) → is_by_number d.day ≡ false → (is_early d || is_late_date d) ≡ true → is_steady d ≡ true
unfolding is_steady
steady_true d plain side = and_from (not (is_by_number d.day)) (is_early d || is_late_date d) (ap not plain) side

early_true : (d : Date) → keeps_early (pos (first_place d.day (pos 2001))) (pos (first_place d.day (pos 2004))) (more_places d.day) ≡ true
    → keeps_early (moved_first d (pos 2001)) (moved_first d (pos 2004)) (more_places d.day) ≡ true → pos 2 ≤ℤ moved_first d (pos 2001) → is_early d ≡ true
unfolding is_early
early_true d a b h = three_from _ _ _ a b (most_true (pos 2) (moved_first d (pos 2001)) h)

late_true : (d : Date) → keeps_late (pos (first_place d.day (pos 2001))) (pos (first_place d.day (pos 2004))) (more_places d.day) ≡ true
    → keeps_late (moved_first d (pos 2001)) (moved_first d (pos 2004)) (more_places d.day) ≡ true → moved_last d (pos 2001) ≤ℤ pos 362 → is_late_date d ≡ true
unfolding is_late_date
late_true d a b h = three_from _ _ _ a b (most_true (moved_last d (pos 2001)) (pos 362) h)

steady_from : (d : Date) → HasSameDates d → is_steady d ≡ true
steady_from d same =
    let f = first_place d.day (pos 2001) in
    let g = first_place d.day (pos 2004) in
    let k = moved_by d.time in
    let n = more_places d.day in
    let zero_in : 0 ≤ n = omega arith in
    let n_in : n ≤ n = omega arith in
    let a = same.after 0 zero_in in
    let z = same.after n n_in in
    let before_last = sides_of d.day (pos 0) n (same.before n n_in) in
    let after_first = sides_of d.day k 0 a in
    let after_last = sides_of d.day k n z in
    let a_there = a.there (pos 2001) common_year in
    let z_there = z.there (pos 2001) common_year in
    let a_place = place_in d.day k (pos 2001) 0 a.month a.date a_there.2.0 (a.is (pos 2001) common_year) in
    let z_place = place_in d.day k (pos 2001) n z.month z.date z_there.2.0 (z.is (pos 2001) common_year) in
    let low = low_inside a.month a.date a_there (same.inside 0 zero_in) in
    let high = high_inside z.month z.date z_there (same.inside n n_in) in
    let first : pos 2 ≤ℤ moved_first d (pos 2001) = omega (arith, signed_arith, a_place, low) in
    let last : moved_last d (pos 2001) ≤ℤ pos 362 = omega (arith, signed_arith, z_place, high) in
    elim (sides_of d.day (pos 0) 0 (same.before 0 zero_in)) [
      | inl early ↦
          let equal : g ≡ f = omega (arith, signed_arith, early.0) in
          let b = early_side _ _ before_last (omega (arith, signed_arith, equal)) in
          let m = early_side _ _ after_first (omega (arith, signed_arith, equal)) in
          let l = early_side _ _ after_last (omega (arith, signed_arith, equal)) in
          steady_true d same.not_by_number (or_left (is_early d) (is_late_date d) (early_true d
          (keeps_early_true (pos f) (pos g) n (omega (arith, signed_arith, equal)) (omega (arith, signed_arith)) (omega (arith, signed_arith, b.1)))
          (keeps_early_true (moved_first d (pos 2001)) (moved_first d (pos 2004)) n (omega (arith, signed_arith, equal)) (omega (arith, signed_arith, m.0))
          (omega (arith, signed_arith, l.1)))
          first))
      | inr late ↦
          let next : g ≡ f + 1 = omega (arith, signed_arith, late.0) in
          let b = late_side _ _ before_last (omega (arith, signed_arith, next)) in
          let m = late_side _ _ after_first (omega (arith, signed_arith, next)) in
          let l = late_side _ _ after_last (omega (arith, signed_arith, next)) in
          steady_true d same.not_by_number (or_right (is_early d) (is_late_date d) (late_true d
          (keeps_late_true (pos f) (pos g) n (omega (arith, signed_arith, next)) (omega (arith, signed_arith, late.1)) (omega (arith, signed_arith, b.1)))
          (keeps_late_true (moved_first d (pos 2001)) (moved_first d (pos 2004)) n (omega (arith, signed_arith, next)) (omega (arith, signed_arith, m.0))
          (omega (arith, signed_arith, l.1)))
          last))
    ]

pub steady_is_same_dates : (d : Date) → IsLawfulDate d → (is_steady d ≡ true) ↔ HasSameDates d
steady_is_same_dates d h = (same_dates d h, steady_from d)
