-- Digits that are parsed.
use Rattle.std.proofs.Common.{◌≡◌, ℕ, ◌<◌, ◌^◌, ◌==◌, List, [], ◌∷◌, length, drop, Bool, true, false, ◌&&◌, not, cond, Result, Ok, Err, refl, sym, ap, ◌∙◌}
use Rattle.std.proofs.Common.{subst, arith}
use Rattle.std.specs.Char.{digit_value, is_ascii_digit}
use Rattle.std.specs.List.{list_all}
use Rattle.std.specs.Str.Parse.{AllDigits, IsNumeral, ParsesUnsigned, digits_value, without_leading_plus}
use Rattle.std.proofs.lemmas.Bool.{ne_eqb, true≢false}
use Rattle.std.proofs.lemmas.Bool.Decides.{nat_tests}
use Rattle.http_client.specs.Replies.{is_digit_text}

one_digit : (c : ℕ) → is_ascii_digit c ≡ true → digit_value c < 10
one_digit c d = grind (arith, nat_tests)

no_plus : (c : ℕ) → is_ascii_digit c ≡ true → (c == 43) ≡ false
no_plus c d = grind (arith, nat_tests)

first_passes : (s t : Bool) → (s && t) ≡ true → s ≡ true
first_passes true t e = refl
first_passes false t e = e

rest_passes : (s t : Bool) → (s && t) ≡ true → t ≡ true
rest_passes true t e = e
rest_passes false t e = absurd (true≢false (sym e))

all_digits : (ds : List ℕ) → list_all is_ascii_digit ds ≡ true → AllDigits 10 ds
all_digits [] h = tt
all_digits (c ∷ cs) h = (
  one_digit c (first_passes (is_ascii_digit c) (list_all is_ascii_digit cs) h),
  all_digits cs (rest_passes (is_ascii_digit c) (list_all is_ascii_digit cs) h),
)

-- a number has a digit, and digits alone
whole : (ds : List ℕ) → is_digit_text ds ≡ true → without_leading_plus ds ≡ ds
whole [] h = absurd (true≢false (sym h))
whole (c ∷ cs) h =
    let digits = rest_passes (not (length (c ∷ cs) == 0)) (list_all is_ascii_digit (c ∷ cs)) h in
    ap (λ t. drop (cond t 1 0) (c ∷ cs)) (no_plus c (first_passes (is_ascii_digit c) (list_all is_ascii_digit cs) digits))

pub numeral : (ds : List ℕ) → is_digit_text ds ≡ true → IsNumeral 10 ds
numeral [] h = absurd (true≢false (sym h))
numeral (c ∷ cs) h =
    (omega arith, all_digits (c ∷ cs) (rest_passes (not (length (c ∷ cs) == 0)) (list_all is_ascii_digit (c ∷ cs)) h))

-- digits that are not parsed write too large a number
pub too_large : {E : Type 0} (ds text : List ℕ) (r : Result ℕ E) (x : E) (len : ℕ) → is_digit_text ds ≡ true → text ≡ ds → ParsesUnsigned 64 10 text r → r ≡ Err x
    → len < 2 ^ 64 → false ≡ digits_value 10 ds == len
too_large ds text (Ok m) x len h same p e small = absurd (cc)
too_large ds text (Err y) x len h same p e small =
    let all : without_leading_plus text ≡ ds = ap without_leading_plus same ∙ whole ds h in
    sym (ne_eqb (digits_value 10 ds) len (λ equal. p (
      subst (IsNumeral 10) (sym all) (numeral ds h),
      subst (λ l. digits_value 10 l < 2 ^ 64) (sym all) (subst (λ n. n < 2 ^ 64) (sym equal) small),
    )))
