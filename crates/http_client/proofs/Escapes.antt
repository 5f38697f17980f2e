-- What is escaped is all that is not unreserved.
use Rattle.std.proofs.Common.{◌≡◌, ℕ, ◌<◌, List, [], ◌∷◌, ◌++◌, Bool, true, false, ◌||◌, not, cond, refl, sym, ap, ◌∙◌, arith, ◌⊎◌, inl, inr}
use Rattle.std.specs.Char.{is_ascii}
use Rattle.std.proofs.lemmas.Bool.{agree_below, agree_below_at, cases_Bool}
use Rattle.std.proofs.lemmas.Bool.Decides.{nat_tests}
use Rattle.percent_encoding.specs.AsciiSet.{contains, should_percent_encode}
use Rattle.percent_encoding.specs.Percent.{encode_byte, percent_encode, percent_encode_byte}
use Rattle.http_client.specs.Requests.{escaped, escaped_byte, is_unreserved}
use Rattle.http_client.specs.declared.requesting.TheConstants.{ESCAPED}

same_set : agree_below (contains ESCAPED) (λ b. not (is_unreserved b)) 128 ≡ true
same_set = refl

ascii_below : (b : ℕ) → is_ascii b ≡ true → b < 128
ascii_below b a = grind (arith, nat_tests)

beyond_ascii : (b : ℕ) → is_ascii b ≡ false → is_unreserved b ≡ false
beyond_ascii b a = grind (arith, nat_tests)

pub escapes : (b : ℕ) → should_percent_encode ESCAPED b ≡ not (is_unreserved b)
unfolding should_percent_encode
escapes b = by_ascii (cases_Bool (is_ascii b))
  where
    by_ascii : (is_ascii b ≡ true) ⊎ (is_ascii b ≡ false) → (not (is_ascii b) || contains ESCAPED b) ≡ not (is_unreserved b)
    by_ascii (inl a) =
        ap (λ t. not t || contains ESCAPED b) a ∙ agree_below_at (contains ESCAPED) (λ c. not (is_unreserved c)) 128 b same_set (ascii_below b a)
    by_ascii (inr a) = ap (λ t. not t || contains ESCAPED b) a ∙ sym (ap not (beyond_ascii b a))

turned : (t : Bool) (x y : List ℕ) → cond (not t) x y ≡ cond t y x
turned true x y = refl
turned false x y = refl

byte_escaped : (b : ℕ) → encode_byte ESCAPED b ≡ escaped_byte b
byte_escaped b =
    ap (λ t. cond t (percent_encode_byte b) (b ∷ [])) (escapes b) ∙ turned (is_unreserved b) (percent_encode_byte b) (b ∷ [])

pub text_escaped : (text : List ℕ) → percent_encode ESCAPED text ≡ escaped text
unfolding percent_encode escaped
text_escaped [] = refl
text_escaped (b ∷ bs) =
    ap (λ l. l ++ percent_encode ESCAPED bs) (byte_escaped b) ∙ ap (λ l. escaped_byte b ++ l) (text_escaped bs)
