-- Values that are written are read back.
use Rattle.std.proofs.Common.{◌≡◌, ◌≢◌, ℕ, zero, suc, ◌^◌, ◌<◌, ◌≤◌}
use Rattle.std.proofs.Common.{true, false, refl, ap}
use Rattle.std.proofs.Common.{◌∙◌, arith, ℤ, pos, negsuc, neg_ℤ, unsigned_abs}
use Rattle.std.proofs.Common.{None, Some, List, ◌∷◌, drop, decimal, get_or}
use Rattle.std.specs.Fmt.{signed_decimal}
use Rattle.std.specs.Str.{all_ascii_digits}
use Rattle.std.specs.Str.Parse.{digits_value, starts_with_minus, without_leading_plus}
use Rattle.std.specs.Str.Parse.{without_leading_sign, signed_digits_value}
use Rattle.std.proofs.lemmas.Bool.{cond-true, cond-false, and_from, le-leb}
use Rattle.std.proofs.lemmas.Bool.Decides.{nat_tests}
use Rattle.std.proofs.lemmas.Fmt.{digits_decimal, digits_value-decimal, length-decimal-le}
use Rattle.std.proofs.lemmas.Fmt.{decimal_nonempty}
use Rattle.std.proofs.lemmas.Str.Parse.{IsNumeralModel, numerals_by_value, tells_all_ascii_digits}
use Rattle.std.proofs.lemmas.Str.Parse.{not_in_digits, without_leading_plus_none}
use Rattle.recurrence.specs.Weekdays.{weekday_name}
use Rattle.vtimezone_reader.specs.ContentLines.{is_word}
use Rattle.vtimezone_reader.specs.RuleWords.{is_short, number_in, month_in, weekday_in}

-- ---- weekdays and numbers

pub weekday_back : (w : ℕ) → w ≤ 6 → weekday_in (weekday_name w) ≡ Some w
unfolding weekday_in weekday_name is_word
weekday_back zero h = refl
weekday_back (suc zero) h = refl
weekday_back (suc (suc zero)) h = refl
weekday_back (suc (suc (suc zero))) h = refl
weekday_back (suc (suc (suc (suc zero)))) h = refl
weekday_back (suc (suc (suc (suc (suc zero))))) h = refl
weekday_back (suc (suc (suc (suc (suc (suc zero)))))) h = refl
weekday_back (suc (suc (suc (suc (suc (suc (suc w))))))) h = absurd (omega arith)

own : IsNumeralModel (λ ds. all_ascii_digits ds ≡ true) (digits_value 10)
own = numerals_by_value (λ ds. all_ascii_digits ds ≡ true) tells_all_ascii_digits

pub all_digits : (n : ℕ) → n < 2 ^ 64 → all_ascii_digits (decimal n) ≡ true
all_digits n h = digits_decimal own n h

value_is : (n : ℕ) → n < 2 ^ 64 → digits_value 10 (decimal n) ≡ n
value_is n h = digits_value-decimal own n h

first_digit : (n b : ℕ) → n < 2 ^ 64 → (b < 48) → get_or (decimal n) 0 0 ≢ b
first_digit n b h below =
    not_in_digits own (decimal n) b (all_digits n h) (λ range. let low = range.0 in omega arith) 0 (decimal_nonempty n h)

no_minus : (n : ℕ) → n < 2 ^ 64 → starts_with_minus (decimal n) ≡ false
no_minus n h = let other = first_digit n 45 h (omega arith) in grind (arith, nat_tests)

no_sign : (n : ℕ) → n < 2 ^ 64 → without_leading_sign (decimal n) ≡ decimal n
no_sign n h =
    cond-false (starts_with_minus (decimal n)) (drop 1 (decimal n)) (without_leading_plus (decimal n)) (no_minus n h)
    ∙ without_leading_plus_none (decimal n) (first_digit n 43 h (omega arith))

signed_value : (n : ℕ) → n < 2 ^ 64 → signed_digits_value 10 (decimal n) ≡ pos n
signed_value n h =
    cond-false (starts_with_minus (decimal n)) (neg_ℤ (pos (digits_value 10 (without_leading_sign (decimal n)))))
    (pos (digits_value 10 (without_leading_sign (decimal n)))) (no_minus n h)
    ∙ ap (λ ds. pos (digits_value 10 ds)) (no_sign n h) ∙ ap pos (value_is n h)

-- a number that is told by its digits and its value is read
told : (places : ℕ) (text : List ℕ) (n : ℕ) (z : ℤ) → without_leading_sign text ≡ decimal n → signed_digits_value 10 text ≡ z
    → 0 < places → 1 ≤ n → n < 10 ^ places → n < 2 ^ 64 → number_in places text ≡ Some z
unfolding number_in
told places text n z digits value some low short fits =
    let first = decimal_nonempty n fits in
    let last = length-decimal-le places n some short fits in
    let is : is_short places (decimal n) ≡ true =
    and_from _ _ (and_from _ _ (all_digits n fits) (le-leb _ _ (omega arith))) (le-leb _ _ (omega arith)) in
    cond-true (is_short places (without_leading_sign text)) (Some (signed_digits_value 10 text)) None (ap (is_short places) digits ∙ is)
    ∙ ap Some value

pub month_back : (n : ℕ) → n < 100 → month_in (decimal n) ≡ Some n
unfolding month_in
month_back n short =
    let fits : n < 2 ^ 64 = omega arith in
    let first = decimal_nonempty n fits in
    let last = length-decimal-le 2 n (omega arith) (omega arith) fits in
    let is : is_short 2 (decimal n) ≡ true =
    and_from _ _ (and_from _ _ (all_digits n fits) (le-leb _ _ (omega arith))) (le-leb _ _ (omega arith)) in
    cond-true (is_short 2 (decimal n)) (Some (digits_value 10 (decimal n))) None is ∙ ap Some (value_is n fits)

pub number_back : (places : ℕ) (z : ℤ) → 0 < places → 1 ≤ unsigned_abs z → unsigned_abs z < 10 ^ places
    → unsigned_abs z < 2 ^ 64 → number_in places (signed_decimal z) ≡ Some z
number_back places (pos n) some low short fits =
    told places (decimal n) n (pos n) (no_sign n fits) (signed_value n fits) some low short fits
number_back places (negsuc n) some low short fits =
    told places (45 ∷ decimal (suc n)) (suc n) (negsuc n) refl (ap (λ k. neg_ℤ (pos k)) (value_is (suc n) fits)) some low short fits
