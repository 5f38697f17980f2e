-- Whether a rule falls on one day of each year: the test, and what it says.
use Rattle.std.proofs.Common.{◌≡◌, ◌↔◌, ℕ, ◌+◌, ◌≤◌, nat_le, Bool, true, false, ◌&&◌, if◌then◌else◌, sym, arith, ℤ, pos, negsuc}
use Rattle.std.proofs.Common.{None, Some}
use Rattle.std.specs.Bool.{IsTrue}
use Rattle.std.proofs.lemmas.Bool.{and_from, and_parts, cond-true, cond-false, le-leb, eq-eqb}
use Rattle.std.proofs.lemmas.Bool.Decides.{nat_tests}
use Rattle.jiff_core.specs.Calendar.{days_in_month}
use Rattle.recurrence.specs.declared.rule_types.Form.{Form}
use Rattle.recurrence.specs.declared.rule_types.Form.TheVariants as form
use Rattle.recurrence.specs.Valid.{IsMonth, IsOrdinal, IsFirstDay, IsValidForm, IsValid}
use Rattle.vtimezone_reader.specs.ValidForms.{is_month, is_ordinal, is_first_day, has_days, is_valid_form}
use Rattle.vtimezone_reader.proofs.Tests.{not_true}

at_most : (a b : ℕ) → nat_le a b ≡ true → a ≤ b
at_most a b e = grind (arith, nat_tests)

month_is : (m : ℕ) → is_month m ≡ true → IsMonth m
month_is m e = let both = and_parts (nat_le 1 m) (nat_le m 12) e in (at_most _ _ both.0, at_most _ _ both.1)

month_passes : (m : ℕ) → IsMonth m → is_month m ≡ true
month_passes m h = and_from _ _ (le-leb _ _ h.0) (le-leb _ _ h.1)

ordinal_is : (z : ℤ) → is_ordinal z ≡ true → IsOrdinal z
ordinal_is (pos n) e = let both = and_parts (nat_le 1 n) (nat_le n 4) e in (at_most _ _ both.0, at_most _ _ both.1)
ordinal_is (negsuc n) e = grind (arith, nat_tests)

is_ordinal_of : (z : ℤ) → IsOrdinal z → is_ordinal z ≡ true
is_ordinal_of (pos n) h = and_from _ _ (le-leb _ _ h.0) (le-leb _ _ h.1)
is_ordinal_of (negsuc n) h = eq-eqb n 0 h

first_is : (z : ℤ) → is_first_day z ≡ true → IsFirstDay z
first_is (pos n) e = let both = and_parts (nat_le 1 n) (nat_le n 359) e in (at_most _ _ both.0, at_most _ _ both.1)
first_is (negsuc n) e = let both = and_parts (nat_le 6 n) (nat_le n 364) e in (at_most _ _ both.0, at_most _ _ both.1)

is_first_of : (z : ℤ) → IsFirstDay z → is_first_day z ≡ true
is_first_of (pos n) h = and_from _ _ (le-leb _ _ h.0) (le-leb _ _ h.1)
is_first_of (negsuc n) h = and_from _ _ (le-leb _ _ h.0) (le-leb _ _ h.1)

days_are : (month first more : ℕ) → has_days month first more ≡ true → (1 ≤ first) × (first + more ≤ days_in_month (pos 2001) month)
days_are month first more e =
    let both = and_parts (nat_le 1 first) (nat_le (first + more) (days_in_month (pos 2001) month)) e in
    (at_most _ _ both.0, at_most _ _ both.1)

has_days_of : (month first more : ℕ) → 1 ≤ first → first + more ≤ days_in_month (pos 2001) month → has_days month first more ≡ true
has_days_of month first more low high = and_from _ _ (le-leb _ _ low) (le-leb _ _ high)

pub valid_is : (f : Form) → is_valid_form f ≡ true → IsValidForm f
unfolding is_valid_form
valid_is (form.NthDay month nth weekday) e =
    let last = and_parts (is_month month && is_ordinal nth) (nat_le weekday 6) e in
    let two = and_parts (is_month month) (is_ordinal nth) last.0 in
    (month_is month two.0, ordinal_is nth two.1, at_most _ _ last.1)
valid_is (form.MonthDays month first weekday) e =
    let last = and_parts (is_month month && has_days month first 6) (nat_le weekday 6) e in
    let two = and_parts (is_month month) (has_days month first 6) last.0 in
    (month_is month two.0, days_are month first 6 two.1, at_most _ _ last.1)
valid_is (form.YearDays first weekday) e =
    let two = and_parts (is_first_day first) (nat_le weekday 6) e in
    (first_is first two.0, at_most _ _ two.1)
valid_is (form.FixedDate month date) e =
    let two = and_parts (is_month month) (has_days month date 0) e in
    let days = days_are month date 0 two.1 in
    (month_is month two.0, (days.0, omega (arith, days.1)))

pub is_valid_of : (f : Form) → IsValidForm f → is_valid_form f ≡ true
unfolding is_valid_form
is_valid_of (form.NthDay month nth weekday) h =
    and_from _ _ (and_from _ _ (month_passes month h.0) (is_ordinal_of nth h.1)) (le-leb _ _ h.2)
is_valid_of (form.MonthDays month first weekday) h =
    and_from _ _ (and_from _ _ (month_passes month h.0) (has_days_of month first 6 h.1.0 h.1.1)) (le-leb _ _ h.2)
is_valid_of (form.YearDays first weekday) h = and_from _ _ (is_first_of first h.0) (le-leb _ _ h.1)
is_valid_of (form.FixedDate month date) h =
    and_from _ _ (month_passes month h.0) (has_days_of month date 0 h.1.0 (omega (arith, h.1.1)))

-- a form is kept where it is valid, and only there
pub valid_kept : (f : Form) (b : Bool) → (IsTrue b ↔ IsValid (record { form = f; second = 0 })) → b ≡ true → Some f ≡ (if is_valid_form f then Some f else None)
valid_kept f b tells e = sym (cond-true (is_valid_form f) (Some f) None (is_valid_of f (tells.0 e).form))

pub invalid_left : (f : Form) (b : Bool) → (IsTrue b ↔ IsValid (record { form = f; second = 0 })) → b ≡ false
    → None ≡ (if is_valid_form f then Some f else None)
invalid_left f b tells e =
    sym (cond-false (is_valid_form f) (Some f) None (not_true (is_valid_form f) (λ valid.
    let yes : b ≡ true = tells.1 (record { form = valid_is f valid; second = omega arith }) in
    cc)))
