-- The rules of a row of days that keeps its dates.
use Rattle.std.proofs.Common.{◌≡◌, ℕ, ◌+◌, ◌-◌, ◌*◌, ◌<◌, ◌≤◌, ◌≢◌, ◌⊎◌, ◌==◌, nat_le, if◌then◌else◌, inl, inr, refl, sym, ap, ◌∙◌, arith, ℤ, pos, negsuc, ◌+ℤ◌}
use Rattle.std.proofs.Common.{◌-ℤ◌}
use Rattle.std.proofs.lemmas.Bool.{cases_lt, cases_order, cond_both, eqb-true, eqb-false, leb-true, leb-false}
use Rattle.jiff_core.specs.Calendar.{days_in_month, days_of_months}
use Rattle.jiff_core.proofs.SignedLemmas.{signed_arith}
use Rattle.jiff_core.proofs.MarchLemmas.{leap_day, days_in_year-leap_day}
use Rattle.jiff_core.proofs.CalendarLemmas.{days_in_month_bounds}
use Rattle.posix_footer.specs.declared.rule_types.DayForm.TheVariants as day
use Rattle.posix_footer.specs.Lawful.{IsLawfulDay}
use Rattle.recurrence.specs.declared.rule_types.Form.{Form}
use Rattle.recurrence.specs.declared.rule_types.Form.TheVariants as form
use Rattle.recurrence.specs.Falls.{IsWeekday}
use Rattle.recurrence.specs.Valid.{IsValidForm}
use Rattle.posix_footer.specs.Onset.{first_place}
use Rattle.recurrence.specs.RuleOfDate.{common_date, row_form}
use Rattle.recurrence.proofs.Months.{months_early, months_late, months_late_bound, length_february, common_date_is}
use Rattle.recurrence.proofs.Windows.{InRow}

-- the place in the year of a row that begins at a place of a common year
abbrev pub Keeps : ℤ → ℕ → ℕ → ℕ → Type 0
Keeps y common p more = ((common + more ≤ 58) × (p ≡ common)) ⊎ ((59 ≤ common) × (common + more ≤ 364) × (p ≡ common + leap_day y))

-- the weekday among the seven days from a place on is what the rule has in the year
pub record IsRowOf (f : Form) (y : ℤ) (p w : ℕ) : Type 0 where
  pub valid : IsValidForm f
  pub row : (q : ℕ) (day : ℤ) → IsWeekday w day → p ≤ q → q ≤ p + 6 → InRow f y q day

-- the day at the place is
pub record IsSpotOf (f : Form) (y : ℤ) (p : ℕ) : Type 0 where
  pub valid : IsValidForm f
  pub row : (q : ℕ) (day : ℤ) → q ≡ p → InRow f y q day

pub february_28 : (m : ℕ) → m ≤ 2 → 1 ≤ m → 31 * (m - 1) + days_in_month (pos 2001) m ≤ 59
february_28 m h low =
    elim (cases_order m 2) [
      | inl two ↦ omega (arith, ap (days_in_month (pos 2001)) two ∙ length_february (pos 2001))
      | inr (inl lt) ↦ omega (arith, days_in_month_bounds (pos 2001) m)
      | inr (inr gt) ↦ absurd (omega arith)
    ]

-- a date of a common year in another year
pub date_keeps : (y : ℤ) (m d common p more : ℕ) → 1 ≤ m → m ≤ 12 → 1 ≤ d → d ≤ days_in_month (pos 2001) m
    → days_of_months (pos 2001) (m - 1) + d ≡ common + 1 → Keeps y common p more → days_of_months y (m - 1) + d - 1 ≡ p
date_keeps y m d common p more low high first last place (inl early) =
    elim (cases_lt m 3) [
      | inl lt ↦ omega (arith, months_early y (m - 1) (omega arith), months_early (pos 2001) (m - 1) (omega arith))
      | inr le ↦ absurd (omega (arith, months_late_bound (m - 1) (omega arith) (omega arith)))
    ]
date_keeps y m d common p more low high first last place (inr late) =
    elim (cases_lt m 3) [
      | inl lt ↦ absurd (omega (arith, months_early (pos 2001) (m - 1) (omega arith), february_28 m (omega arith) low))
      | inr le ↦ omega (arith, months_late y (m - 1) (omega arith) (omega arith))
    ]

pub within_common : (y : ℤ) (common p more : ℕ) → Keeps y common p more → common + more < 365
within_common y common p more (inl early) = omega arith
within_common y common p more (inr late) = omega arith

pub spot_of : (y : ℤ) (common p : ℕ) → Keeps y common p 0 → IsSpotOf (form.FixedDate (common_date common).month (common_date common).day) y p
spot_of y common p keeps =
    let inside = within_common y common p 0 keeps in
    let c = common_date_is common (omega arith) in
    let same = date_keeps y (common_date common).month (common_date common).day common p 0 c.month.0 c.month.1 c.day.0 c.day.1 c.place keeps in
    record {
      valid = (c.month, c.day);
      row = λ q day e. e ∙ sym same;
    }

month_row : (y : ℤ) (common p w : ℕ) → w ≤ 6 → Keeps y common p 6 → (common_date common).month ≡ (common_date (common + 6)).month
    → IsRowOf (form.MonthDays (common_date common).month (common_date common).day w) y p w
month_row y common p w h keeps one =
    let inside = within_common y common p 6 keeps in
    let c = common_date_is common (omega arith) in
    let last = common_date_is (common + 6) (omega arith) in
    let same = date_keeps y (common_date common).month (common_date common).day common p 6 c.month.0 c.month.1 c.day.0 c.day.1 c.place keeps in
    let begin : days_of_months (pos 2001) ((common_date common).month - 1) ≡ days_of_months (pos 2001) ((common_date (common + 6)).month - 1) = ap
    (λ m. days_of_months (pos 2001) (m - 1)) one in
    let long : days_in_month (pos 2001) (common_date common).month ≡ days_in_month (pos 2001) (common_date (common + 6)).month = ap
    (days_in_month (pos 2001)) one in
    record {
      valid = (c.month, (c.day.0, omega (arith, last.day, last.place, c.place)), h);
      row = λ q day is low high. (is, omega (arith, same), omega (arith, same));
    }

early_row : (y : ℤ) (common p w : ℕ) → w ≤ 6 → Keeps y common p 6 → common ≤ 58 → IsRowOf (form.YearDays (pos (common + 1)) w) y p w
early_row y common p w h (inl early) low = record {
  valid = ((omega arith, omega arith), h);
  row = λ q day is low high. (is, omega arith, omega arith);
}
early_row y common p w h (inr late) low = absurd (omega arith)

late_row_at : (y : ℤ) (z : ℤ) (common p w : ℕ) → w ≤ 6 → (59 ≤ common) × (common + 6 ≤ 364) × (p ≡ common + leap_day y) → z +ℤ pos 365 ≡ pos common
    → IsRowOf (form.YearDays z w) y p w
late_row_at y (pos n) common p w h late e = absurd (omega (arith, signed_arith))
late_row_at y (negsuc n) common p w h late e =
    let is : n + 1 + common ≡ 365 = omega (arith, signed_arith) in
    let long = days_in_year-leap_day y in
    record {
      valid = ((omega arith, omega arith), h);
      row = λ q day on low high. (on, omega (arith, long, is), omega (arith, long, is));
    }

late_row : (y : ℤ) (common p w : ℕ) → w ≤ 6 → Keeps y common p 6 → 58 < common → IsRowOf (form.YearDays (pos common -ℤ pos 365) w) y p w
late_row y common p w h (inl early) low = absurd (omega arith)
late_row y common p w h (inr late) low = late_row_at y _ common p w h late (omega (arith, signed_arith))

pub row_of : (y : ℤ) (common p w : ℕ) → w ≤ 6 → Keeps y common p 6 → IsRowOf (row_form common w) y p w
row_of y common p w h keeps =
    cond_both ((common_date common).month == (common_date (common + 6)).month) _ _ (λ f. IsRowOf f y p w)
    (λ one. month_row y common p w h keeps (eqb-true _ _ one))
    (λ two. cond_both (nat_le common 58) _ _ (λ f. IsRowOf f y p w)
    (λ low. early_row y common p w h keeps (leb-true _ _ low))
    (λ high. late_row y common p w h keeps (leb-false _ _ high)))

-- and of a weekday of a month that is not moved
pub nth_of : (y : ℤ) (month week w : ℕ) → IsLawfulDay (day.Week month week w)
    → IsRowOf (form.NthDay month (if week == 5 then negsuc 0 else pos week) w) y (first_place (day.Week month week w) y) w
nth_of y month week w h =
    let long = days_in_month_bounds y month in
    cond_both (week == 5) (negsuc 0) (pos week) (λ nth. IsRowOf (form.NthDay month nth w) y (first_place (day.Week month week w) y) w)
    (λ five. let last : week ≡ 5 = eqb-true _ _ five in record {
      valid = ((h.0, h.1), refl, h.4);
      row = λ q day is low high. (is, omega (arith, last, long), omega (arith, last, long));
    })
    (λ other. let before : week ≢ 5 = eqb-false _ _ other in record {
      valid = ((h.0, h.1), (h.2, omega (arith, before, h.3)), h.4);
      row = λ q day is low high. (is, omega (arith, before, h, long), omega (arith, before, h, long));
    })
