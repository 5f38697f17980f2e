-- What the test of a date says.
use Rattle.std.proofs.Common.{◌≡◌, ℕ, ◌+◌, ◌≤◌, ◌⊎◌, Bool, true, false, not, ◌&&◌, ◌||◌, inl, inr, refl, sym, arith, ℤ, pos, ◌+ℤ◌, ◌≤ℤ◌, int_le}
use Rattle.std.specs.Ordering.{int_eq}
use Rattle.std.proofs.lemmas.Bool.{and_parts}
use Rattle.std.proofs.lemmas.Int.{ints}
use Rattle.jiff_core.proofs.SignedLemmas.{signed_arith}
use Rattle.posix_footer.specs.declared.rule_types.Date.{Date}
use Rattle.posix_footer.specs.Carried.{moved_by, is_early, is_late_date, is_steady, is_by_number, keeps_early, keeps_late, moved_first, moved_last}
use Rattle.posix_footer.specs.Onset.{first_place, more_places}

-- the row lies before 29 February, moved or not
pub record IsEarly (date : Date) : Type 0 where
  pub same : first_place date.day (pos 2004) ≡ first_place date.day (pos 2001)
  pub last : first_place date.day (pos 2001) + more_places date.day ≤ 58
  pub moved_first : pos 2 ≤ℤ (pos (first_place date.day (pos 2001)) +ℤ moved_by date.time)
  pub moved_last : (pos (first_place date.day (pos 2001)) +ℤ moved_by date.time +ℤ pos (more_places date.day)) ≤ℤ pos 58

-- or after it
pub record IsLate (date : Date) : Type 0 where
  pub same : first_place date.day (pos 2004) ≡ first_place date.day (pos 2001) + 1
  pub first : 59 ≤ first_place date.day (pos 2001)
  pub last : first_place date.day (pos 2001) + more_places date.day ≤ 364
  pub moved_first : pos 59 ≤ℤ (pos (first_place date.day (pos 2001)) +ℤ moved_by date.time)
  pub moved_last : (pos (first_place date.day (pos 2001)) +ℤ moved_by date.time +ℤ pos (more_places date.day)) ≤ℤ pos 362

pub record IsSteady (date : Date) : Type 0 where
  pub not_by_number : is_by_number date.day ≡ false
  pub side : IsEarly date ⊎ IsLate date

pub three : (a b c : Bool) → (a && b && c) ≡ true → (a ≡ true) × (b ≡ true) × (c ≡ true)
three true true true e = (refl, refl, refl)
three true true false e = (refl, refl, e)
three true false c e = (refl, e, absurd (cc))
three false b c e = absurd (cc)

equal_is : (a b : ℤ) → int_eq a b ≡ true → a ≡ b
equal_is a b e = grind (arith, ints)

most_is : (a b : ℤ) → int_le a b ≡ true → a ≤ℤ b
most_is a b e = omega (arith, signed_arith)

keeps_early_is : (c l : ℤ) (n : ℕ) → keeps_early c l n ≡ true → (l ≡ c) × (pos 0 ≤ℤ c) × ((c +ℤ pos n) ≤ℤ pos 58)
unfolding keeps_early
keeps_early_is c l n e =
    let parts = three (int_eq l c) (int_le (pos 0) c) (int_le (c +ℤ pos n) (pos 58)) e in
    (equal_is l c parts.0, most_is (pos 0) c parts.1, most_is (c +ℤ pos n) (pos 58) parts.2)

keeps_late_is : (c l : ℤ) (n : ℕ) → keeps_late c l n ≡ true → (l ≡ c +ℤ pos 1) × (pos 59 ≤ℤ c) × ((c +ℤ pos n) ≤ℤ pos 364)
unfolding keeps_late
keeps_late_is c l n e =
    let parts = three (int_eq l (c +ℤ pos 1)) (int_le (pos 59) c) (int_le (c +ℤ pos n) (pos 364)) e in
    (equal_is l (c +ℤ pos 1) parts.0, most_is (pos 59) c parts.1, most_is (c +ℤ pos n) (pos 364) parts.2)

early_is : (date : Date) → is_early date ≡ true → IsEarly date
unfolding is_early
early_is date e =
    let c = pos (first_place date.day (pos 2001)) in
    let l = pos (first_place date.day (pos 2004)) in
    let k = moved_by date.time in
    let n = more_places date.day in
    let parts = three (keeps_early c l n) (keeps_early (c +ℤ k) (l +ℤ k) n) (int_le (pos 2) (c +ℤ k)) e in
    let here = keeps_early_is c l n parts.0 in
    let moved = keeps_early_is (c +ℤ k) (l +ℤ k) n parts.1 in
    record {
      same = omega (arith, signed_arith, here.0);
      last = omega (arith, signed_arith, here.2);
      moved_first = most_is (pos 2) (c +ℤ k) parts.2;
      moved_last = moved.2;
    }

late_is : (date : Date) → is_late_date date ≡ true → IsLate date
unfolding is_late_date
late_is date e =
    let c = pos (first_place date.day (pos 2001)) in
    let l = pos (first_place date.day (pos 2004)) in
    let k = moved_by date.time in
    let n = more_places date.day in
    let parts = three (keeps_late c l n) (keeps_late (c +ℤ k) (l +ℤ k) n) (int_le (c +ℤ k +ℤ pos n) (pos 362)) e in
    let here = keeps_late_is c l n parts.0 in
    let moved = keeps_late_is (c +ℤ k) (l +ℤ k) n parts.1 in
    record {
      same = omega (arith, signed_arith, here.0);
      first = omega (arith, signed_arith, here.1);
      last = omega (arith, signed_arith, here.2);
      moved_first = moved.1;
      moved_last = most_is (c +ℤ k +ℤ pos n) (pos 362) parts.2;
    }

not_is : (a : Bool) → not a ≡ true → a ≡ false
not_is true e = sym e
not_is false e = refl

either_is : (date : Date) (a b : Bool) → (a ≡ true → IsEarly date) → (b ≡ true → IsLate date) → (a || b) ≡ true → IsEarly date ⊎ IsLate date
either_is date true b f g e = inl (f refl)
either_is date false b f g e = inr (g e)

pub steady_is : (date : Date) → is_steady date ≡ true → IsSteady date
unfolding is_steady
steady_is date e =
    let parts = and_parts (not (is_by_number date.day)) (is_early date || is_late_date date) e in
    record {
      not_by_number = not_is (is_by_number date.day) parts.0;
      side = either_is date (is_early date) (is_late_date date) (early_is date) (late_is date) parts.1;
    }

pub steady_within : (date : Date) → is_steady date ≡ true → (pos 2 ≤ℤ moved_first date (pos 2001)) × (moved_last date (pos 2001) ≤ℤ pos 362)
steady_within date e =
    elim ((steady_is date e).side) [
      | inl early ↦ (early.moved_first, let last = early.moved_last in omega (arith, signed_arith))
      | inr late ↦ (let first = late.moved_first in omega (arith, signed_arith), late.moved_last)
    ]
