-- The days of a rule as a test, and as a relation.
use Rattle.std.proofs.Common.{◌≡◌, ℕ, ◌+◌, ◌≤◌, ◌==◌, nat_le, true, ◌&&◌, ap, ◌∙◌, subst, arith}
use Rattle.std.proofs.Common.{ℤ, pos, negsuc, ◌+ℤ◌, ◌≤ℤ◌, unsigned_abs}
use Rattle.std.proofs.lemmas.Bool.{and_from, and_parts, le-leb, eq-eqb}
use Rattle.std.proofs.lemmas.Bool.Decides.{nat_tests}
use Rattle.jiff_core.proofs.SignedLemmas.{signed_arith, one_part}
use Rattle.jiff_core.specs.Calendar.{days_in_month, days_in_year, day_of_year, days_from_civil, IsCivilDate, IsYear}
use Rattle.jiff_core.proofs.CalendarLemmas.{days_from_civil-day_count, day_count-year_is}
use Rattle.td_civil.specs.Calendar.{Civil}
use Rattle.td_civil.proofs.lemmas.Counting.{IsDated, date_of_counts, date_of_number, one_date}
use Rattle.recurrence.specs.declared.rule_types.Form.{Form}
use Rattle.recurrence.specs.declared.rule_types.Form.TheVariants as form
use Rattle.recurrence.specs.Falls.{IsNth, IsAmongDays, HasDate, Falls, IsOfYear}
use Rattle.vtimezone_reader.specs.FallsOn.{date_of_day, is_nth, is_among_days, is_weekday, has_month_day, falls_on}

nth_is : (nth : ℤ) (length day : ℕ) → is_nth nth length day ≡ true → IsNth nth length day
nth_is (pos n) length day e = grind (arith, nat_tests)
nth_is (negsuc n) length day e = grind (arith, nat_tests)

is_nth_of : (nth : ℤ) (length day : ℕ) → IsNth nth length day → is_nth nth length day ≡ true
is_nth_of (pos n) length day h = grind (arith, nat_tests)
is_nth_of (negsuc n) length day h = grind (arith, nat_tests)

among_is : (first : ℤ) (length day : ℕ) → is_among_days first length day ≡ true → IsAmongDays first length day
among_is (pos n) length day e =
    let both = and_parts (nat_le n day) (nat_le day (n + 6)) e in
    let low = both.0 in let high = both.1 in
    (grind (arith, nat_tests), grind (arith, nat_tests))
among_is (negsuc n) length day e =
    let both = and_parts (nat_le length (day + n)) (nat_le (day + n) (length + 6)) e in
    let low = both.0 in let high = both.1 in
    (grind (arith, nat_tests), grind (arith, nat_tests))

is_among_of : (first : ℤ) (length day : ℕ) → IsAmongDays first length day → is_among_days first length day ≡ true
is_among_of (pos n) length day h = and_from _ _ (le-leb _ _ h.0) (le-leb _ _ h.1)
is_among_of (negsuc n) length day h = and_from _ _ (le-leb _ _ h.0) (le-leb _ _ h.1)

same_is : (a b : ℕ) → (a == b) ≡ true → a ≡ b
same_is a b e = grind (arith, nat_tests)

is_same_of : (a b : ℕ) → a ≡ b → (a == b) ≡ true
is_same_of a b e = eq-eqb a b e

date_is : (f : Form) (c : Civil) (day : ℤ) → has_month_day f c day ≡ true → HasDate f (pos c.year) c.month c.day day
date_is (form.NthDay month nth weekday) c day e =
    let left = and_parts ((c.month == month) && is_weekday weekday day) (is_nth nth (days_in_month (pos c.year) c.month) c.day) e in
    let two = and_parts (c.month == month) (is_weekday weekday day) left.0 in
    (same_is _ _ two.0, same_is _ _ two.1, nth_is nth _ _ left.1)
date_is (form.MonthDays month first weekday) c day e =
    let last = and_parts ((c.month == month) && is_weekday weekday day && nat_le first c.day) (nat_le c.day (first + 6)) e in
    let third = and_parts ((c.month == month) && is_weekday weekday day) (nat_le first c.day) last.0 in
    let two = and_parts (c.month == month) (is_weekday weekday day) third.0 in
    let low = third.1 in let high = last.1 in
    (same_is _ _ two.0, same_is _ _ two.1, (grind (arith, nat_tests), grind (arith, nat_tests)))
date_is (form.YearDays first weekday) c day e =
    let two = and_parts (is_weekday weekday day) (is_among_days first (days_in_year (pos c.year)) (day_of_year (pos c.year) c.month c.day)) e in
    (same_is _ _ two.0, among_is first _ _ two.1)
date_is (form.FixedDate month date) c day e =
    let two = and_parts (c.month == month) (c.day == date) e in
    (same_is _ _ two.0, same_is _ _ two.1)

is_date_of : (f : Form) (c : Civil) (day : ℤ) → HasDate f (pos c.year) c.month c.day day → has_month_day f c day ≡ true
is_date_of (form.NthDay month nth weekday) c day h =
    and_from _ _ (and_from _ _ (is_same_of _ _ h.0) (is_same_of _ _ h.1)) (is_nth_of nth _ _ h.2)
is_date_of (form.MonthDays month first weekday) c day h =
    and_from _ _ (and_from _ _ (and_from _ _ (is_same_of _ _ h.0) (is_same_of _ _ h.1)) (le-leb _ _ h.2.0)) (le-leb _ _ h.2.1)
is_date_of (form.YearDays first weekday) c day h = and_from _ _ (is_same_of _ _ h.0) (is_among_of first _ _ h.1)
is_date_of (form.FixedDate month date) c day h = and_from _ _ (is_same_of _ _ h.0) (is_same_of _ _ h.1)

-- the date of a day of the years 0 to 9999
abbrev pub IsDay : ℤ → Type 0
IsDay day = (pos 0 ≤ℤ (day +ℤ pos 719528)) × (day ≤ℤ pos 2932896)

dated_day : (day : ℤ) → IsDay day → IsDated (date_of_day day)
dated_day day h =
    let is = one_part (day +ℤ pos 719528) in
    (date_of_counts (unsigned_abs (day +ℤ pos 719528)) (omega (arith, signed_arith, is, h))).dated

pub civil_date : (day : ℤ) → IsDay day → IsCivilDate (pos (date_of_day day).year) (date_of_day day).month (date_of_day day).day
civil_date day h =
    let there = dated_day day h in
    ((omega (arith, signed_arith, there.year), omega (arith, signed_arith, there.year)), there.month, there.day)

pub falls_is : (f : Form) (day : ℤ) → IsDay day → falls_on f day ≡ true → Falls f day
unfolding falls_on
falls_is f day h e = record {
  year = pos (date_of_day day).year;
  month = (date_of_day day).month;
  date = (date_of_day day).day;
  there = civil_date day h;
  number = date_of_number day h.0 h.1;
  has = date_is f (date_of_day day) day e;
}

-- the day count of a civil date tells its year, where the day lies in that year
pub falls_on_of : (f : Form) (n : ℕ) (day : ℤ) → n ≤ 9999 → IsDay day → IsOfYear (pos n) day → Falls f day → falls_on f day ≡ true
unfolding falls_on
falls_on_of f n day low h within falls =
    let civil = falls.there in
    let year : IsYear (pos n) = (omega (arith, signed_arith, low), omega (arith, signed_arith, low)) in
    let same : falls.year ≡ pos n = day_count-year_is (pos n) falls.year falls.month falls.date year civil
    (omega (arith, signed_arith, days_from_civil-day_count, falls.number, within.0, within.1))
    (omega (arith, signed_arith, days_from_civil-day_count, falls.number, within.0, within.1)) in
    let m = falls.month in
    let d = falls.date in
    let is : day ≡ days_from_civil (pos n) m d = falls.number ∙ ap (λ k. days_from_civil k m d) same in
    let Last : ℤ → Type 0 = λ k. d ≤ days_in_month k m in
    let Has : ℤ → Type 0 = λ k. HasDate f k m d day in
    let c : Civil = record { year = n; month = m; day = d } in
    let dated : IsDated c = record { year = low; month = civil.1; day = (civil.2.0, subst Last same civil.2.1) } in
    let found = date_of_number day h.0 h.1 in
    let eq : c ≡ date_of_day day = one_date c (date_of_day day) dated (dated_day day h)
    (omega (arith, signed_arith, days_from_civil-day_count, is, found)) in
    let P : Civil → Type 0 = λ k. has_month_day f k day ≡ true in
    subst P eq (is_date_of f c day (subst Has same falls.has))
