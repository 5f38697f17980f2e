-- The fields of a form name the form, and their numbers are short.
use Rattle.std.proofs.Common.{◌≡◌, ℕ, zero, suc, ◌+◌, ◌≤◌, true, refl, ap, arith, ℤ, pos, negsuc, ◌+ℤ◌, Option, None, Some, List, [], ◌∷◌}
use Rattle.std.specs.Option.{option_map}
use Rattle.std.specs.Ordering.{int_eq}
use Rattle.std.proofs.lemmas.Bool.{cond-true, and_from}
use Rattle.std.proofs.lemmas.Int.{ints}
use Rattle.jiff_core.proofs.CalendarLemmas.{days_in_month_bounds}
use Rattle.jiff_core.proofs.SignedLemmas.{signed_arith, one_part}
use Rattle.jiff_core.specs.Calendar.{days_in_month}
use Rattle.recurrence.specs.declared.rule_types.Form.{Form}
use Rattle.recurrence.specs.declared.rule_types.Form.TheVariants as form
use Rattle.recurrence.specs.FormFields.{are_in_a_row, week_from, form_on_month_days, form_of_fields}
use Rattle.recurrence.specs.Valid.{IsFirstDay, IsMonth, IsOrdinal}
use Rattle.recurrence.specs.Weekdays.{Day}
use Rattle.recurrence.proofs.lemmas.Weekdays.{IsShort}

-- n numbers in a row from the kth after this one
abbrev pub numbers_after : ℤ → ℕ → ℕ → List ℤ
numbers_after z k zero = []
numbers_after z k (suc n) = (z +ℤ pos k) ∷ numbers_after z (suc k) n

abbrev pub next_numbers : ℤ → List ℤ
next_numbers z = numbers_after z 1 6

-- seven numbers in a row, each short
abbrev pub AreShort : ℕ → ℕ → ℤ → Type 0
AreShort places most z = (k : ℕ) → k ≤ 6 → IsShort places most (z +ℤ pos k)

one_later : (z : ℤ) (k : ℕ) → int_eq (z +ℤ pos (suc k)) ((z +ℤ pos k) +ℤ pos 1) ≡ true
one_later z k = grind (arith, ints)

same_next : (z : ℤ) → int_eq (z +ℤ pos 1) (z +ℤ pos 1) ≡ true
same_next z = grind (arith, ints)

pub row_back : (z : ℤ) → week_from (z ∷ next_numbers z) ≡ Some z
unfolding week_from
row_back z =
    cond-true (are_in_a_row z (next_numbers z)) (Some z) None
    (and_from _ _ (same_next z) (and_from _ _ (one_later z 1) (and_from _ _ (one_later z 2) (and_from _ _ (one_later z 3) (and_from _ _ (one_later z 4)
    (and_from _ true (one_later z 5) refl))))))

pub first_small : (z : ℤ) → IsFirstDay z → (k : ℕ) → k ≤ 6 → IsShort 3 366 (z +ℤ pos k)
first_small (pos n) h k le = record {
  some = omega arith;
  low = omega (arith, signed_arith, h, one_part (pos n +ℤ pos k));
  high = omega (arith, signed_arith, h, one_part (pos n +ℤ pos k));
  short = omega (arith, signed_arith, h, one_part (pos n +ℤ pos k));
  small = omega (arith, signed_arith, h, one_part (pos n +ℤ pos k));
}
first_small (negsuc n) h k le = record {
  some = omega arith;
  low = omega (arith, signed_arith, h, one_part (negsuc n +ℤ pos k));
  high = omega (arith, signed_arith, h, one_part (negsuc n +ℤ pos k));
  short = omega (arith, signed_arith, h, one_part (negsuc n +ℤ pos k));
  small = omega (arith, signed_arith, h, one_part (negsuc n +ℤ pos k));
}

-- a number of a month or of a day of a month
pub small_number : (n most : ℕ) → 1 ≤ n → n ≤ most → most ≤ 31 → IsShort 2 most (pos n)
small_number n most low high least = record {
  some = omega arith;
  low = low;
  high = high;
  short = omega arith;
  small = omega arith;
}

pub place_short : (z : ℤ) → IsOrdinal z → IsShort 2 53 z
place_short (pos n) h = record { some = omega arith; low = h.0; high = omega (arith, h); short = omega (arith, h); small = omega (arith, h) }
place_short (negsuc n) h = record {
  some = omega arith;
  low = omega (arith, signed_arith);
  high = omega (arith, signed_arith, h);
  short = omega (arith, signed_arith, h);
  small = omega (arith, signed_arith, h);
}

pub month_short : (m : ℕ) → IsMonth m → IsShort 2 12 (pos m)
month_short m h = small_number m 12 h.0 h.1 (omega arith)

pub month_days_short : (m first k : ℕ) → 1 ≤ first → first + 6 ≤ days_in_month (pos 2001) m → k ≤ 6 → IsShort 2 31 (pos first +ℤ pos k)
month_days_short m first k low high le =
    let long = days_in_month_bounds (pos 2001) m in
    small_number (first + k) 31 (omega arith) (omega (arith, long)) (omega arith)

-- the fields of a form
abbrev pub months_of : Form → Option (List ℤ)
months_of (form.NthDay month nth weekday) = Some (pos month ∷ [])
months_of (form.MonthDays month first weekday) = Some (pos month ∷ [])
months_of (form.YearDays first weekday) = None
months_of (form.FixedDate month day) = Some (pos month ∷ [])

abbrev pub month_days_of : Form → Option (List ℤ)
month_days_of (form.NthDay month nth weekday) = None
month_days_of (form.MonthDays month first weekday) = Some (pos first ∷ next_numbers (pos first))
month_days_of (form.YearDays first weekday) = None
month_days_of (form.FixedDate month day) = Some (pos day ∷ [])

abbrev pub year_days_of : Form → Option (List ℤ)
year_days_of (form.NthDay month nth weekday) = None
year_days_of (form.MonthDays month first weekday) = None
year_days_of (form.YearDays first weekday) = Some (first ∷ next_numbers first)
year_days_of (form.FixedDate month day) = None

abbrev pub days_of : Form → Option (List Day)
days_of (form.NthDay month nth weekday) = Some (record { nth = Some nth; weekday = weekday } ∷ [])
days_of (form.MonthDays month first weekday) = Some (record { nth = None; weekday = weekday } ∷ [])
days_of (form.YearDays first weekday) = Some (record { nth = None; weekday = weekday } ∷ [])
days_of (form.FixedDate month day) = None

-- they name the form
pub fields_back : (f : Form) → form_of_fields (months_of f) (month_days_of f) (year_days_of f) (days_of f) ≡ Some f
fields_back (form.NthDay month nth weekday) = refl
fields_back (form.MonthDays month first weekday) = ap (form_on_month_days month weekday) (row_back (pos first))
fields_back (form.YearDays first weekday) = ap (option_map (λ z. form.YearDays z weekday)) (row_back first)
fields_back (form.FixedDate month day) = refl
