-- Values of fields: what is trimmed of digits, and what digits are.
use Rattle.std.proofs.Common.{◌≡◌, ℕ, ◌+◌, ◌%◌, ◌<◌, ◌^◌, List, [], ◌∷◌, length, reverse, Bool, true, false, ◌&&◌, not, cond, refl, sym, ap, ◌∙◌, arith}
use Rattle.std.specs.Char.{is_ascii_digit}
use Rattle.std.specs.List.{list_all}
use Rattle.std.specs.Prelude.{decimal}
use Rattle.std.proofs.lemmas.Bool.{ne_eqb, true≢false}
use Rattle.std.proofs.lemmas.Bool.Decides.{nat_tests}
use Rattle.std.proofs.lemmas.Fmt.{decimal_by_steps, decimal_nonempty}
use Rattle.std.proofs.lemmas.List.{reverse-append}
use Rattle.std.proofs.lemmas.List.Folds.{list_all-append}
use Rattle.httparse.specs.Grammar.{is_ows, is_value_byte, skip_ows, trim_ows}
use Rattle.httparse.proofs.TrimLemmas.{trim_ows_space}
use Rattle.http_client.specs.Replies.{is_digit_text}

abbrev pub AreDigits : List ℕ → Type 0
AreDigits text = list_all is_ascii_digit text ≡ true

no_blank : (b : ℕ) → is_ascii_digit b ≡ true → is_ows b ≡ false
no_blank b v = grind (arith, nat_tests)

of_value : (b : ℕ) → is_ascii_digit b ≡ true → is_value_byte b ≡ true
of_value b v = grind (arith, nat_tests)

pub first : (s t : Bool) → (s && t) ≡ true → s ≡ true
first true t e = refl
first false t e = e

pub second : (s t : Bool) → (s && t) ≡ true → t ≡ true
second true t e = e
second false t e = absurd (true≢false (sym e))

pub both : (s t : Bool) → s ≡ true → t ≡ true → (s && t) ≡ true
both s t e f = rw (e, f) refl

skips_none : (v : List ℕ) → AreDigits v → skip_ows v ≡ v
skips_none [] h = refl
skips_none (b ∷ bs) h = ap (λ t. cond t (skip_ows bs) (b ∷ bs)) (no_blank b (first (is_ascii_digit b) (list_all is_ascii_digit bs) h))

turned : (v : List ℕ) → AreDigits v → AreDigits (reverse v)
turned [] h = refl
turned (b ∷ bs) h =
    ap (list_all is_ascii_digit) (reverse-append (b ∷ []) bs) ∙ list_all-append is_ascii_digit (reverse bs) (b ∷ [])
    ∙ by (is_ascii_digit b) (list_all is_ascii_digit bs) (list_all is_ascii_digit (reverse bs)) h (turned bs)
  where
    by : (s t r : Bool) → (s && t) ≡ true → (t ≡ true → r ≡ true) → (r && (s && true)) ≡ true
    by true t r e f = rw (f e) refl
    by false t r e f = absurd (true≢false (sym e))

pub trimmed : (v : List ℕ) → AreDigits v → trim_ows (32 ∷ v) ≡ v
trimmed v h = trim_ows_space v (skips_none v h) (skips_none (reverse v) (turned v h))

pub digits_pass : (v : List ℕ) → AreDigits v → list_all is_value_byte v ≡ true
digits_pass [] h = refl
digits_pass (b ∷ bs) h =
    both (is_value_byte b) (list_all is_value_byte bs) (of_value b (first (is_ascii_digit b) (list_all is_ascii_digit bs) h))
    (digits_pass bs (second (is_ascii_digit b) (list_all is_ascii_digit bs) h))

one_digit : (n : ℕ) → n < 10 → AreDigits ((48 + n) ∷ [])
one_digit n small = grind (arith, nat_tests)

pub number_digits : (n : ℕ) → n < 2 ^ 64 → AreDigits (decimal n)
number_digits =
    decimal_by_steps (λ _ text. AreDigits text) one_digit
    (λ n ds more h. list_all-append is_ascii_digit ds ((48 + n % 10) ∷ []) ∙ rw (h, one_digit (n % 10) (omega arith)))

some_digits : (n : ℕ) → 0 < n → n ≡ 0 → ⊥
some_digits n some none = omega (arith, some, none)

pub number_is : (n : ℕ) → n < 2 ^ 64 → is_digit_text (decimal n) ≡ true
number_is n small =
    ap (λ t. not t && list_all is_ascii_digit (decimal n)) (ne_eqb (length (decimal n)) 0 (some_digits (length (decimal n)) (decimal_nonempty n small)))
    ∙ number_digits n small
