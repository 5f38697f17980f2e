-- A rule's days of a year are a row of seven, or one day, and a weekday.
use Rattle.std.proofs.Common.{◌≡◌, ℕ, zero, suc, ◌+◌, ◌-◌, ◌<◌, ◌≤◌, inl, inr, refl, sym, subst, ap, ◌∙◌, arith, ℤ, pos, negsuc, ◌+ℤ◌, ◌-ℤ◌, ◌<ℤ◌, ◌≤ℤ◌}
use Rattle.std.proofs.lemmas.Bool.{cases_lt}
use Rattle.std.proofs.lemmas.Int.{by_lt_z}
use Rattle.jiff_core.specs.Calendar.{days_in_month, days_in_year, days_of_months, day_of_year, days_from_civil, IsYear}
use Rattle.jiff_core.proofs.SignedLemmas.{signed_arith}
use Rattle.jiff_core.proofs.CalendarLemmas.{days_from_civil-day_count, day_count-day_of_year, day_count-year_is, weekday_number-add, weekday_number-parts}
use Rattle.jiff_core.proofs.CalendarLemmas.{weekday_number_bound, days_of_months-zero, days_of_months_more, days_of_months_mono, days_of_months_all}
use Rattle.jiff_core.proofs.CalendarLemmas.{days_in_month_bounds, days_in_year_bounds}
use Rattle.recurrence.specs.declared.rule_types.Form.{Form}
use Rattle.recurrence.specs.declared.rule_types.Form.TheVariants as form
use Rattle.recurrence.specs.Falls.{Falls, HasDate, IsOfYear, IsWeekday}
use Rattle.recurrence.specs.Row.{row_first, days_ahead, weeks_begin}
use Rattle.recurrence.specs.Valid.{IsMonth, IsOrdinal, IsFirstDay, IsValidForm}
use Rattle.recurrence.specs.Occurs.{IsOccurrence}

-- which of those days it is
abbrev pub InRow : Form → ℤ → ℕ → ℤ → Type 0
InRow (form.NthDay month nth weekday) y q day = IsWeekday weekday day × (row_first (form.NthDay month nth weekday) y ≤ q) ×
    (q ≤ row_first (form.NthDay month nth weekday) y + 6)
InRow (form.MonthDays month first weekday) y q day = IsWeekday weekday day × (row_first (form.MonthDays month first weekday) y ≤ q) ×
    (q ≤ row_first (form.MonthDays month first weekday) y + 6)
InRow (form.YearDays first weekday) y q day = IsWeekday weekday day × (row_first (form.YearDays first weekday) y ≤ q) ×
    (q ≤ row_first (form.YearDays first weekday) y + 6)
InRow (form.FixedDate month date) y q day = q ≡ row_first (form.FixedDate month date) y

-- two days of seven in a row with one weekday are one
later_is_other : (w : ℕ) (a b : ℤ) → IsWeekday w a → IsWeekday w b → a <ℤ b → b ≤ℤ (a +ℤ pos 6) → ⊥
later_is_other w a b wa wb lt near =
    omega (arith, signed_arith, weekday_number-parts a, weekday_number-parts b)

pub one_in_seven : (w : ℕ) (s a b : ℤ) → IsWeekday w a → IsWeekday w b → s ≤ℤ a → a ≤ℤ (s +ℤ pos 6) → s ≤ℤ b → b ≤ℤ (s +ℤ pos 6) → a ≡ b
one_in_seven w s a b wa wb la ha lb hb =
    by_lt_z a b (λ lt. absurd (later_is_other w a b wa wb lt (omega (arith, signed_arith))))
    (λ le. by_lt_z b a (λ lt. absurd (later_is_other w b a wb wa lt (omega (arith, signed_arith))))
    (λ ge. omega (arith, signed_arith)))

-- and one of them has it
pub some_in_seven : (w : ℕ) (s b : ℤ) → w ≤ 6 → b ≡ s +ℤ pos (days_ahead w s) → (days_ahead w s ≤ 6) × IsWeekday w b
unfolding days_ahead
some_in_seven w s b h e =
    let moved = weekday_number-add s b (days_ahead w s) e in
    let bound = weekday_number_bound s in
    (omega arith, omega arith)

-- a date of the year with its place
in_row : (f : Form) (y : ℤ) (m d : ℕ) (day : ℤ) → 1 ≤ d → d ≤ days_in_month y m → IsValidForm f → HasDate f y m d day
    → InRow f y (day_of_year y m d - 1) day
in_row (form.NthDay month (pos n) weekday) y m d day first last h has =
    let e : days_of_months y (m - 1) ≡ days_of_months y (month - 1) = ap (λ k. days_of_months y (k - 1)) has.0 in
    (has.1, omega arith, omega arith)
in_row (form.NthDay month (negsuc n) weekday) y m d day first last h has =
    let e : days_of_months y (m - 1) ≡ days_of_months y (month - 1) = ap (λ k. days_of_months y (k - 1)) has.0 in
    let e_length : days_in_month y m ≡ days_in_month y month = ap (days_in_month y) has.0 in
    let long = days_in_month_bounds y m in
    (has.1, omega (arith, e, e_length, long), omega (arith, e, e_length, long))
in_row (form.MonthDays month from weekday) y m d day first last h has =
    let e : days_of_months y (m - 1) ≡ days_of_months y (month - 1) = ap (λ k. days_of_months y (k - 1)) has.0 in
    (has.1, omega arith, omega arith)
in_row (form.YearDays (pos n) weekday) y m d day first last h has = (has.0, omega arith, omega arith)
in_row (form.YearDays (negsuc n) weekday) y m d day first last h has =
    let long = days_in_year_bounds y in
    (has.0, omega (arith, has.1, h.0, long), omega (arith, has.1, h.0, long))
in_row (form.FixedDate month date) y m d day first last h has =
    let e : days_of_months y (m - 1) ≡ days_of_months y (month - 1) = ap (λ k. days_of_months y (k - 1)) has.0 in
    omega (arith, e, has.1)

-- a day of a year, its place from 0 in the year, and what holds of it
pub record IsInRow (f : Form) (y day : ℤ) : Type 0 where
  pub place : ℕ
  pub number : day ≡ days_from_civil y 1 1 +ℤ pos place
  pub row : InRow f y place day

pub falls_in_row : (f : Form) (y day : ℤ) → IsYear y → IsValidForm f → IsOfYear y day → Falls f day → IsInRow f y day
falls_in_row f y day year h within falls =
    let civil = falls.there in
    let place = day_count-day_of_year falls.year falls.month falls.date civil.2.0 in
    let same : falls.year ≡ y = day_count-year_is y falls.year falls.month falls.date year civil
    (omega (arith, signed_arith, days_from_civil-day_count, falls.number))
    (omega (arith, signed_arith, days_from_civil-day_count, falls.number)) in
    let m = falls.month in
    let d = falls.date in
    let is : day ≡ days_from_civil y m d = falls.number ∙ ap (λ k. days_from_civil k m d) same in
    let Last : ℤ → Type 0 = λ k. d ≤ days_in_month k m in
    let Has : ℤ → Type 0 = λ k. HasDate f k m d day in
    record {
      place = day_of_year y m d - 1;
      number = omega (arith, signed_arith, days_from_civil-day_count, is, day_count-day_of_year y m d civil.2.0, civil.2.0);
      row = in_row f y m d day civil.2.0 (subst Last same civil.2.1) h (subst Has same falls.has);
    }

-- the date at a place of the year
pub record HasPlace (y : ℤ) (q : ℕ) : Type 0 where
  pub month : ℕ
  pub date : ℕ
  pub month_in : (1 ≤ month) × (month ≤ 12)
  pub date_in : (1 ≤ date) × (date ≤ days_in_month y month)
  pub place : day_of_year y month date ≡ q + 1

date_before : (y : ℤ) (n q : ℕ) → n ≤ 12 → q < days_of_months y n → HasPlace y q
date_before y zero q h lt = absurd (omega (arith, days_of_months-zero y))
date_before y (suc n) q h lt =
    let back : suc n - 1 ≡ n = omega arith in
    let more : days_of_months y (suc n) ≡ days_of_months y n + days_in_month y (suc n) = rw back at (days_of_months_more y (suc n) (omega arith)) in
    elim (cases_lt q (days_of_months y n)) [
      | inl less ↦ date_before y n q (omega arith) less
      | inr le ↦ record {
        month = suc n;
        date = q + 1 - days_of_months y n;
        month_in = (omega arith, h);
        date_in = (omega arith, omega (arith, more));
        place = rw back (omega arith);
      }
    ]

pub date_at : (y : ℤ) (q : ℕ) → q < days_in_year y → HasPlace y q
date_at y q lt = date_before y 12 q (omega arith) (omega (arith, days_of_months_all y))

number_of : (y : ℤ) (m d q : ℕ) (day : ℤ) → 1 ≤ d → day_of_year y m d ≡ q + 1 → day ≡ days_from_civil y 1 1 +ℤ pos q → day ≡ days_from_civil y m d
number_of y m d q day first place e =
    omega (arith, signed_arith, days_from_civil-day_count, day_count-day_of_year y m d first)

-- a day of the row is one on which the rule falls
falls_at : (f : Form) (y day : ℤ) (q m d : ℕ) → IsYear y → (1 ≤ m) × (m ≤ 12) → (1 ≤ d) × (d ≤ days_in_month y m) → day_of_year y m d ≡ q + 1
    → day ≡ days_from_civil y 1 1 +ℤ pos q → HasDate f y m d day → Falls f day
falls_at f y day q m d year month date place number has = record {
  year = y;
  month = m;
  date = d;
  there = (year, month, date);
  number = number_of y m d q day date.0 place number;
  has = has;
}

pub common_length : (y : ℤ) (m : ℕ) → days_in_month (pos 2001) m ≤ days_in_month y m
common_length y m = grind arith

pub row_falls : (f : Form) (y day : ℤ) (q : ℕ) → IsYear y → IsValidForm f → q < days_in_year y → day ≡ days_from_civil y 1 1 +ℤ pos q → InRow f y q day
    → Falls f day
row_falls (form.NthDay month (pos n) weekday) y day q year h lt number row =
    let long = days_in_month_bounds y month in
    let d = q + 1 - days_of_months y (month - 1) in
    falls_at _ y day q month d year h.0 (omega arith, omega arith) (omega arith) number (refl, row.0, omega arith)
row_falls (form.NthDay month (negsuc n) weekday) y day q year h lt number row =
    let long = days_in_month_bounds y month in
    let d = q + 1 - days_of_months y (month - 1) in
    falls_at _ y day q month d year h.0 (omega arith, omega arith) (omega arith) number (refl, row.0, omega arith)
row_falls (form.MonthDays month from weekday) y day q year h lt number row =
    let long = common_length y month in
    let d = q + 1 - days_of_months y (month - 1) in
    falls_at _ y day q month d year h.0 (omega arith, omega arith) (omega arith) number (refl, row.0, (omega arith, omega arith))
row_falls (form.YearDays (pos n) weekday) y day q year h lt number row =
    let found = date_at y q lt in
    falls_at _ y day q found.month found.date year found.month_in found.date_in found.place number
    (row.0, (omega (arith, found.place), omega (arith, found.place)))
row_falls (form.YearDays (negsuc n) weekday) y day q year h lt number row =
    let found = date_at y q lt in
    let long = days_in_year_bounds y in
    falls_at _ y day q found.month found.date year found.month_in found.date_in found.place number
    (row.0, (omega (arith, found.place), omega (arith, found.place)))
row_falls (form.FixedDate month date) y day q year h lt number row =
    let long = common_length y month in
    falls_at _ y day q month date year h.0 (omega arith, omega arith) (omega arith) number (refl, refl)

-- so there is one at most
pub falls_once : (f : Form) (y a b : ℤ) → IsYear y → IsValidForm f → IsOfYear y a → IsOfYear y b → Falls f a → Falls f b → a ≡ b
falls_once (form.NthDay month nth weekday) y a b year h ha hb fa fb =
    let ra = falls_in_row _ y a year h ha fa in
    let rb = falls_in_row _ y b year h hb fb in
    let s = days_from_civil y 1 1 +ℤ pos (row_first (form.NthDay month nth weekday) y) in
    one_in_seven weekday s a b ra.row.0 rb.row.0 (omega (arith, signed_arith, ra.number, ra.row)) (omega (arith, signed_arith, ra.number, ra.row))
    (omega (arith, signed_arith, rb.number, rb.row)) (omega (arith, signed_arith, rb.number, rb.row))
falls_once (form.MonthDays month from weekday) y a b year h ha hb fa fb =
    let ra = falls_in_row _ y a year h ha fa in
    let rb = falls_in_row _ y b year h hb fb in
    let s = days_from_civil y 1 1 +ℤ pos (row_first (form.MonthDays month from weekday) y) in
    one_in_seven weekday s a b ra.row.0 rb.row.0 (omega (arith, signed_arith, ra.number, ra.row)) (omega (arith, signed_arith, ra.number, ra.row))
    (omega (arith, signed_arith, rb.number, rb.row)) (omega (arith, signed_arith, rb.number, rb.row))
falls_once (form.YearDays from weekday) y a b year h ha hb fa fb =
    let ra = falls_in_row _ y a year h ha fa in
    let rb = falls_in_row _ y b year h hb fb in
    let s = days_from_civil y 1 1 +ℤ pos (row_first (form.YearDays from weekday) y) in
    one_in_seven weekday s a b ra.row.0 rb.row.0 (omega (arith, signed_arith, ra.number, ra.row)) (omega (arith, signed_arith, ra.number, ra.row))
    (omega (arith, signed_arith, rb.number, rb.row)) (omega (arith, signed_arith, rb.number, rb.row))
falls_once (form.FixedDate month date) y a b year h ha hb fa fb =
    let ra = falls_in_row _ y a year h ha fa in
    let rb = falls_in_row _ y b year h hb fb in
    ra.number ∙ ap (λ q. days_from_civil y 1 1 +ℤ pos q) (ra.row ∙ sym rb.row) ∙ sym rb.number

-- the row lies within the year
pub row_inside : (f : Form) (y : ℤ) → IsValidForm f → row_first f y < days_in_year y
row_inside (form.NthDay month (pos n) weekday) y h =
    let long = days_in_month_bounds y month in
    omega (arith, days_of_months_more y month h.0.0, days_of_months_mono y month 12 h.0.1, days_of_months_all y)
row_inside (form.NthDay month (negsuc n) weekday) y h =
    let long = days_in_month_bounds y month in
    omega (arith, days_of_months_more y month h.0.0, days_of_months_mono y month 12 h.0.1, days_of_months_all y)
row_inside (form.MonthDays month first weekday) y h =
    omega (arith, common_length y month, days_of_months_more y month h.0.0, days_of_months_mono y month 12 h.0.1, days_of_months_all y)
row_inside (form.YearDays (pos n) weekday) y h = let long = days_in_year_bounds y in omega arith
row_inside (form.YearDays (negsuc n) weekday) y h = let long = days_in_year_bounds y in omega arith
row_inside (form.FixedDate month date) y h =
    omega (arith, common_length y month, days_of_months_more y month h.0.0, days_of_months_mono y month 12 h.0.1, days_of_months_all y)

pub week_inside : (month : ℕ) (nth : ℤ) (w : ℕ) (y : ℤ) → IsMonth month → IsOrdinal nth → row_first (form.NthDay month nth w) y + 6 < days_in_year y
week_inside month (pos n) w y m h =
    let long = days_in_month_bounds y month in
    omega (arith, days_of_months_more y month m.0, days_of_months_mono y month 12 m.1, days_of_months_all y)
week_inside month (negsuc n) w y m h =
    let long = days_in_month_bounds y month in
    omega (arith, days_of_months_more y month m.0, days_of_months_mono y month 12 m.1, days_of_months_all y)

pub month_days_inside : (month first w : ℕ) (y : ℤ) → IsMonth month → 1 ≤ first → first + 6 ≤ days_in_month (pos 2001) month
    → row_first (form.MonthDays month first w) y + 6 < days_in_year y
month_days_inside month first w y m low high =
    omega (arith, common_length y month, days_of_months_more y month m.0, days_of_months_mono y month 12 m.1, days_of_months_all y)

pub year_days_inside : (first : ℤ) (w : ℕ) (y : ℤ) → IsFirstDay first → row_first (form.YearDays first w) y + 6 < days_in_year y
year_days_inside (pos n) w y h = let long = days_in_year_bounds y in omega arith
year_days_inside (negsuc n) w y h = let long = days_in_year_bounds y in omega arith

-- a day of the row is the rule's one occurrence in the year
pub occurs_in_row : (f : Form) (y day : ℤ) (q : ℕ) → IsYear y → IsValidForm f → q < days_in_year y → day ≡ days_from_civil y 1 1 +ℤ pos q → InRow f y q day
    → IsOccurrence f y day
occurs_in_row f y day q year h lt number row =
    let within : IsOfYear y day = (omega (arith, signed_arith), omega (arith, signed_arith)) in
    let falls = row_falls f y day q year h lt number row in
    record { within = within; falls = falls; only = λ other there also. falls_once f y other day year h there within also falls }

ahead_is : (w p : ℕ) (s day y : ℤ) → w ≤ 6 → s ≡ days_from_civil y 1 1 +ℤ pos p → day ≡ s +ℤ pos (days_ahead w s)
    → (day ≡ days_from_civil y 1 1 +ℤ pos (p + days_ahead w s)) × IsWeekday w day × (days_ahead w s ≤ 6)
ahead_is w p s day y h from e =
    let found = some_in_seven w s day h e in
    (omega (arith, signed_arith), found.1, found.0)

pub nth_day_occurs : (month : ℕ) (nth : ℤ) (w : ℕ) (y s day : ℤ) → IsYear y → IsValidForm (form.NthDay month nth w)
    → s ≡ days_from_civil y 1 1 +ℤ pos (row_first (form.NthDay month nth w) y) → day ≡ s +ℤ pos (days_ahead w s)
    → IsOccurrence (form.NthDay month nth w) y day
nth_day_occurs month nth w y s day year h from e =
    let p = row_first (form.NthDay month nth w) y in
    let is = ahead_is w p s day y h.2 from e in
    let inside = week_inside month nth w y h.0 h.1 in
    occurs_in_row (form.NthDay month nth w) y day (p + days_ahead w s) year h (omega arith) is.0 (is.1, omega arith, omega arith)

pub month_days_occur : (month first w : ℕ) (y s day : ℤ) → IsYear y → IsValidForm (form.MonthDays month first w)
    → s ≡ days_from_civil y 1 1 +ℤ pos (row_first (form.MonthDays month first w) y) → day ≡ s +ℤ pos (days_ahead w s)
    → IsOccurrence (form.MonthDays month first w) y day
month_days_occur month first w y s day year h from e =
    let p = row_first (form.MonthDays month first w) y in
    let is = ahead_is w p s day y h.2 from e in
    let inside = month_days_inside month first w y h.0 h.1.0 h.1.1 in
    occurs_in_row (form.MonthDays month first w) y day (p + days_ahead w s) year h (omega arith) is.0 (is.1, omega arith, omega arith)

pub year_days_occur : (first : ℤ) (w : ℕ) (y s day : ℤ) → IsYear y → IsValidForm (form.YearDays first w)
    → s ≡ days_from_civil y 1 1 +ℤ pos (row_first (form.YearDays first w) y) → day ≡ s +ℤ pos (days_ahead w s) → IsOccurrence (form.YearDays first w) y day
year_days_occur first w y s day year h from e =
    let p = row_first (form.YearDays first w) y in
    let is = ahead_is w p s day y h.1 from e in
    let inside = year_days_inside first w y h.0 in
    occurs_in_row (form.YearDays first w) y day (p + days_ahead w s) year h (omega arith) is.0 (is.1, omega arith, omega arith)

pub fixed_date_occurs : (month date : ℕ) (y day : ℤ) → IsYear y → IsValidForm (form.FixedDate month date) → day ≡ days_from_civil y month date
    → IsOccurrence (form.FixedDate month date) y day
fixed_date_occurs month date y day year h e =
    let p = row_first (form.FixedDate month date) y in
    let number : day ≡ days_from_civil y 1 1 +ℤ pos p = omega (arith, signed_arith, days_from_civil-day_count, day_count-day_of_year y month date h.1.0) in
    occurs_in_row (form.FixedDate month date) y day p year h (row_inside (form.FixedDate month date) y h) number refl

-- the day of a month and its place
pub day_at_place : (y : ℤ) (month date : ℕ) → 1 ≤ date
    → days_from_civil y month date ≡ days_from_civil y 1 1 +ℤ pos (days_of_months y (month - 1) + date - 1)
day_at_place y month date h =
    omega (arith, signed_arith, days_from_civil-day_count, day_count-day_of_year y month date h)

-- where the seven days begin, from the first of their month or year
pub weeks_start : (month : ℕ) (nth : ℤ) (w : ℕ) (y first after s : ℤ) → IsOrdinal nth → first ≡ days_from_civil y month 1
    → after ≡ pos (weeks_begin nth (days_in_month y month)) → s ≡ first +ℤ after → s ≡ days_from_civil y 1 1 +ℤ pos (row_first (form.NthDay month nth w) y)
weeks_start month (pos n) w y first after s h is k e =
    omega (arith, signed_arith, day_at_place y month 1 (omega arith))
weeks_start month (negsuc n) w y first after s h is k e =
    omega (arith, signed_arith, day_at_place y month 1 (omega arith), days_in_month_bounds y month)

pub month_days_start : (month date w : ℕ) (y first s : ℤ) → 1 ≤ date → first ≡ days_from_civil y month 1 → s ≡ first +ℤ pos date -ℤ pos 1
    → s ≡ days_from_civil y 1 1 +ℤ pos (row_first (form.MonthDays month date w) y)
month_days_start month date w y first s h is e =
    omega (arith, signed_arith, day_at_place y month 1 (omega arith))

pub fixed_date_start : (month date : ℕ) (y first s : ℤ) → 1 ≤ date → first ≡ days_from_civil y month 1 → s ≡ first +ℤ pos date -ℤ pos 1
    → s ≡ days_from_civil y month date
fixed_date_start month date y first s h is e =
    omega (arith, signed_arith, day_at_place y month 1 (omega arith), day_at_place y month date h)

pub year_days_start : (from : ℤ) (w : ℕ) (y first after s : ℤ) → first ≡ days_from_civil y 1 1 → after ≡ pos (row_first (form.YearDays from 0) y)
    → s ≡ first +ℤ after → s ≡ days_from_civil y 1 1 +ℤ pos (row_first (form.YearDays from w) y)
year_days_start (pos n) w y first after s is k e = omega (arith, signed_arith)
year_days_start (negsuc n) w y first after s is k e = omega (arith, signed_arith)
