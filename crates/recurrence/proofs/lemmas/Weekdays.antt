-- Weekdays and numbers that are written are read back.
use Rattle.std.proofs.Common.{◌≡◌, ℕ, zero, suc, ◌+◌, ◌-◌, ◌^◌, ◌<◌, ◌≤◌, ◌≢◌, true, false, refl, ap, ◌∙◌, arith, ℤ, pos, negsuc, neg_ℤ, unsigned_abs}
use Rattle.std.proofs.Common.{Option, None, Some, List, [], ◌∷◌, ◌++◌, length, take, drop, decimal, get_or}
use Rattle.std.specs.Fmt.{signed_decimal}
use Rattle.std.specs.Option.{option_map}
use Rattle.std.specs.Str.{all_ascii_digits}
use Rattle.std.specs.Str.Parse.{digits_value, starts_with_minus, without_leading_plus}
use Rattle.std.specs.Str.Parse.{without_leading_sign, signed_digits_value}
use Rattle.std.proofs.lemmas.Bool.{cond-true, cond-false, and_from, le-leb}
use Rattle.std.proofs.lemmas.Bool.Decides.{nat_tests}
use Rattle.std.proofs.lemmas.Fmt.{digits_decimal, digits_value-decimal, length-decimal-le, decimal_nonempty}
use Rattle.std.proofs.lemmas.List.{length-append}
use Rattle.std.proofs.lemmas.Str.Parse.{IsNumeralModel, numerals_by_value, tells_all_ascii_digits}
use Rattle.std.proofs.lemmas.Str.Parse.{not_in_digits, without_leading_plus_none}
use Rattle.std.proofs.Math.Seq.{take-append_seam, drop-append_seam}
use Rattle.jiff_core.proofs.SignedLemmas.{signed_arith}
use Rattle.recurrence.specs.Weekdays.{weekday_name, weekday_of_text, is_number, number_of_text, Day, day_of, nth_of_text, day_of_text}

pub weekday_back : (w : ℕ) → w ≤ 6 → weekday_of_text (weekday_name w) ≡ Some w
unfolding weekday_of_text weekday_name
weekday_back zero h = refl
weekday_back (suc zero) h = refl
weekday_back (suc (suc zero)) h = refl
weekday_back (suc (suc (suc zero))) h = refl
weekday_back (suc (suc (suc (suc zero)))) h = refl
weekday_back (suc (suc (suc (suc (suc zero))))) h = refl
weekday_back (suc (suc (suc (suc (suc (suc zero)))))) h = refl
weekday_back (suc (suc (suc (suc (suc (suc (suc w))))))) h = absurd (omega arith)

own : IsNumeralModel (λ ds. all_ascii_digits ds ≡ true) (digits_value 10)
own = numerals_by_value (λ ds. all_ascii_digits ds ≡ true) tells_all_ascii_digits

pub all_digits : (n : ℕ) → n < 2 ^ 64 → all_ascii_digits (decimal n) ≡ true
all_digits n h = digits_decimal own n h

value_is : (n : ℕ) → n < 2 ^ 64 → digits_value 10 (decimal n) ≡ n
value_is n h = digits_value-decimal own n h

first_digit : (n b : ℕ) → n < 2 ^ 64 → (b < 48) → get_or (decimal n) 0 0 ≢ b
first_digit n b h below =
    not_in_digits own (decimal n) b (all_digits n h) (λ range. let low = range.0 in omega arith) 0 (decimal_nonempty n h)

no_minus : (n : ℕ) → n < 2 ^ 64 → starts_with_minus (decimal n) ≡ false
no_minus n h = let other = first_digit n 45 h (omega arith) in grind (arith, nat_tests)

no_sign : (n : ℕ) → n < 2 ^ 64 → without_leading_sign (decimal n) ≡ decimal n
no_sign n h =
    cond-false (starts_with_minus (decimal n)) (drop 1 (decimal n)) (without_leading_plus (decimal n)) (no_minus n h)
    ∙ without_leading_plus_none (decimal n) (first_digit n 43 h (omega arith))

signed_value : (n : ℕ) → n < 2 ^ 64 → signed_digits_value 10 (decimal n) ≡ pos n
signed_value n h =
    cond-false (starts_with_minus (decimal n)) (neg_ℤ (pos (digits_value 10 (without_leading_sign (decimal n)))))
    (pos (digits_value 10 (without_leading_sign (decimal n)))) (no_minus n h)
    ∙ ap (λ ds. pos (digits_value 10 ds)) (no_sign n h) ∙ ap pos (value_is n h)

-- a number that is told by its digits and its value is read
told : (places most : ℕ) (text : List ℕ) (n : ℕ) (z : ℤ) → without_leading_sign text ≡ decimal n → signed_digits_value 10 text ≡ z → unsigned_abs z ≡ n
    → 0 < places → 1 ≤ n → n ≤ most → n < 10 ^ places → n < 2 ^ 64 → number_of_text places most text ≡ Some z
unfolding number_of_text
told places most text n z digits value size some low high short fits =
    let all : all_ascii_digits (without_leading_sign text) ≡ true = ap all_ascii_digits digits ∙ all_digits n fits in
    let long : length (without_leading_sign text) ≡ length (decimal n) = ap length digits in
    let is : unsigned_abs (signed_digits_value 10 text) ≡ n = ap unsigned_abs value ∙ size in
    let first = decimal_nonempty n fits in
    let last = length-decimal-le places n some short fits in
    cond-true (is_number places most text) (Some (signed_digits_value 10 text)) None
    (and_from _ _ (and_from _ _ (and_from _ _ (and_from _ _ all (le-leb _ _ (omega arith))) (le-leb _ _ (omega arith))) (le-leb _ _ (omega arith)))
    (le-leb _ _ (omega arith)))
    ∙ ap Some value

pub number_back : (places most : ℕ) (z : ℤ) → 0 < places → 1 ≤ unsigned_abs z → unsigned_abs z ≤ most → unsigned_abs z < 10 ^ places
    → unsigned_abs z < 2 ^ 64 → number_of_text places most (signed_decimal z) ≡ Some z
number_back places most (pos n) some low high short fits =
    told places most (decimal n) n (pos n) (no_sign n fits) (signed_value n fits) refl some low high short fits
number_back places most (negsuc n) some low high short fits =
    told places most (45 ∷ decimal (suc n)) (suc n) (negsuc n) refl (ap (λ k. neg_ℤ (pos k)) (value_is (suc n) fits)) refl some low high short fits

-- a number of so many digits at most
pub record IsShort (places most : ℕ) (z : ℤ) : Type 0 where
  pub some : 0 < places
  pub low : 1 ≤ unsigned_abs z
  pub high : unsigned_abs z ≤ most
  pub short : unsigned_abs z < 10 ^ places
  pub small : unsigned_abs z ≤ 1000

pub short_back : (places most : ℕ) (z : ℤ) → IsShort places most z → number_of_text places most (signed_decimal z) ≡ Some z
short_back places most z h =
    let low = h.low in
    let small = h.small in
    number_back places most z h.some h.low h.high h.short (omega arith)

weekday_length : (w : ℕ) → w ≤ 6 → length (weekday_name w) ≡ 2
unfolding weekday_name
weekday_length zero h = refl
weekday_length (suc zero) h = refl
weekday_length (suc (suc zero)) h = refl
weekday_length (suc (suc (suc zero))) h = refl
weekday_length (suc (suc (suc (suc zero)))) h = refl
weekday_length (suc (suc (suc (suc (suc zero))))) h = refl
weekday_length (suc (suc (suc (suc (suc (suc zero)))))) h = refl
weekday_length (suc (suc (suc (suc (suc (suc (suc w))))))) h = absurd (omega arith)

pub weekday_alone : (w : ℕ) → w ≤ 6 → day_of_text (weekday_name w) ≡ Some (record { nth = None; weekday = w })
unfolding day_of_text weekday_of_text weekday_name
weekday_alone zero h = refl
weekday_alone (suc zero) h = refl
weekday_alone (suc (suc zero)) h = refl
weekday_alone (suc (suc (suc zero))) h = refl
weekday_alone (suc (suc (suc (suc zero)))) h = refl
weekday_alone (suc (suc (suc (suc (suc zero))))) h = refl
weekday_alone (suc (suc (suc (suc (suc (suc zero)))))) h = refl
weekday_alone (suc (suc (suc (suc (suc (suc (suc w))))))) h = absurd (omega arith)

nth_back : (t : List ℕ) (z : ℤ) → 0 < length t → number_of_text 2 53 t ≡ Some z → nth_of_text t ≡ Some (Some z)
nth_back [] z some e = absurd (omega arith)
nth_back (b ∷ bs) z some e = ap (option_map Some) e

signed_nonempty : (z : ℤ) → IsShort 2 53 z → 0 < length (signed_decimal z)
signed_nonempty (pos n) h = let small = h.small in decimal_nonempty n (omega (arith, signed_arith))
signed_nonempty (negsuc n) h = omega arith

pub nth_weekday : (z : ℤ) (w : ℕ) → IsShort 2 53 z → w ≤ 6 → day_of_text (signed_decimal z ++ weekday_name w) ≡ Some (record { nth = Some z; weekday = w })
unfolding day_of_text
nth_weekday z w h le =
    let a = signed_decimal z in
    let b = weekday_name w in
    let two = weekday_length w le in
    let long : length (a ++ b) - 2 ≡ length a = omega (arith, length-append a b) in
    let front : take (length (a ++ b) - 2) (a ++ b) ≡ a = ap (λ n. take n (a ++ b)) long ∙ take-append_seam a b in
    let back : drop (length (a ++ b) - 2) (a ++ b) ≡ b = ap (λ n. drop n (a ++ b)) long ∙ drop-append_seam a b in
    ap (λ t. day_of (nth_of_text t) (weekday_of_text (drop (length (a ++ b) - 2) (a ++ b)))) front
    ∙ ap (λ t. day_of (nth_of_text a) (weekday_of_text t)) back
    ∙ ap (λ o. day_of o (weekday_of_text b)) (nth_back a z (signed_nonempty z h) (short_back 2 53 z h))
    ∙ ap (day_of (Some (Some z))) (weekday_back w le)
