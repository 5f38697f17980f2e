-- A text in a target: what its bytes are not, how long it is, and what it stands for.
use Rattle.std.proofs.Common.{◌≡◌, ◌≢◌, ℕ, ◌*◌, ◌<◌, ◌≤◌, ◌==◌, List, [], ◌∷◌, ◌++◌, length, Bool, true, false, ◌&&◌, ◌||◌, not, cond, refl, sym, ap, ◌∙◌}
use Rattle.std.proofs.Common.{subst, arith, ◌⊎◌, inl, inr, All}
use Rattle.std.proofs.Common.{length-append}
use Rattle.std.specs.Char.{is_ascii}
use Rattle.std.specs.Str.{IsUtf8}
use Rattle.std.specs.Str.Lossy.{utf8_lossy}
use Rattle.std.proofs.lemmas.Bool.{agree_below, agree_below_at, cases_Bool, true≢false}
use Rattle.std.proofs.lemmas.Bool.Decides.{nat_tests}
use Rattle.std.proofs.lemmas.List.Elements.{All-weaker}
use Rattle.std.proofs.lemmas.Str.{utf8_lossy-IsUtf8}
use Rattle.form_urlencoded.proofs.FormLemmas.{map-plus_to_space}
use Rattle.percent_encoding.specs.AsciiSet.{contains, should_percent_encode}
use Rattle.percent_encoding.specs.Percent.{encode_byte, percent_decode, percent_encode, percent_encode_byte}
use Rattle.percent_encoding.proofs.PercentLemmas.{All-percent_encode, IsEscapeByte, round_trip}
use Rattle.http_client.specs.Requests.{escaped, escaped_byte, is_unreserved}
use Rattle.http_client.specs.declared.requesting.TheConstants.{ESCAPED}
use Rattle.target.specs.Parameters.{decoded_text}

-- ---- what is escaped is all that is not unreserved

same_set : agree_below (contains ESCAPED) (λ b. not (is_unreserved b)) 128 ≡ true
same_set = refl

ascii_below : (b : ℕ) → is_ascii b ≡ true → b < 128
ascii_below b a = grind (arith, nat_tests)

beyond_ascii : (b : ℕ) → is_ascii b ≡ false → is_unreserved b ≡ false
beyond_ascii b a = grind (arith, nat_tests)

escapes : (b : ℕ) → should_percent_encode ESCAPED b ≡ not (is_unreserved b)
unfolding should_percent_encode
escapes b = by_ascii (cases_Bool (is_ascii b))
  where
    by_ascii : (is_ascii b ≡ true) ⊎ (is_ascii b ≡ false) → (not (is_ascii b) || contains ESCAPED b) ≡ not (is_unreserved b)
    by_ascii (inl a) =
        ap (λ t. not t || contains ESCAPED b) a ∙ agree_below_at (contains ESCAPED) (λ c. not (is_unreserved c)) 128 b same_set (ascii_below b a)
    by_ascii (inr a) = ap (λ t. not t || contains ESCAPED b) a ∙ sym (ap not (beyond_ascii b a))

turned : (t : Bool) (x y : List ℕ) → cond (not t) x y ≡ cond t y x
turned true x y = refl
turned false x y = refl

byte_escaped : (b : ℕ) → encode_byte ESCAPED b ≡ escaped_byte b
byte_escaped b =
    ap (λ t. cond t (percent_encode_byte b) (b ∷ [])) (escapes b) ∙ turned (is_unreserved b) (percent_encode_byte b) (b ∷ [])

pub text_escaped : (text : List ℕ) → percent_encode ESCAPED text ≡ escaped text
unfolding percent_encode escaped
text_escaped [] = refl
text_escaped (b ∷ bs) =
    ap (λ l. l ++ percent_encode ESCAPED bs) (byte_escaped b) ∙ ap (λ l. escaped_byte b ++ l) (text_escaped bs)

-- ---- no line feed, and no byte that has a meaning in a query

abbrev pub is_quiet : ℕ → Bool
is_quiet b = not (b == 10) && (not (b == 38) && not (b == 43))

unreserved_quiet : (b : ℕ) → is_unreserved b ≡ true → is_quiet b ≡ true
unreserved_quiet b u = grind (arith, nat_tests)

escape_quiet : (b : ℕ) → IsEscapeByte b → is_quiet b ≡ true
escape_quiet b e = grind (arith, nat_tests)

kept_quiet : (b : ℕ) → should_percent_encode ESCAPED b ≡ false → is_quiet b ≡ true
kept_quiet b kept = by_test (is_unreserved b) refl
  where
    by_test : (t : Bool) → is_unreserved b ≡ t → is_quiet b ≡ true
    by_test true u = unreserved_quiet b u
    by_test false u = absurd (true≢false (sym (escapes b ∙ ap not u) ∙ kept))

pub escaped_quiet : (text : List ℕ) → All (λ b. is_quiet b ≡ true) (escaped text)
escaped_quiet text =
    subst (All (λ b. is_quiet b ≡ true)) (text_escaped text) (All-percent_encode (λ b. is_quiet b ≡ true) ESCAPED text kept_quiet escape_quiet)

pub no_ampersand : (b : ℕ) → is_quiet b ≡ true → b ≢ 38
no_ampersand b h = grind (arith, nat_tests)

pub no_plus : (b : ℕ) → is_quiet b ≡ true → b ≢ 43
no_plus b h = grind (arith, nat_tests)

-- ---- its length

byte_short : (b : ℕ) → length (escaped_byte b) ≤ 3
unfolding percent_encode_byte
byte_short b = by (is_unreserved b)
  where
    by : (t : Bool) → length (cond t (b ∷ []) (percent_encode_byte b)) ≤ 3
    by true = omega arith
    by false = omega arith

pub escaped_short : (text : List ℕ) → length (escaped text) ≤ 3 * length text
unfolding escaped
escaped_short [] = omega arith
escaped_short (b ∷ bs) =
    let rest = escaped_short bs in
    let one = byte_short b in
    omega (arith, rest, one, length-append (escaped_byte b) (escaped bs))

-- ---- what it stands for

pub text_back : (text : List ℕ) → All (λ b. b < 256) text → IsUtf8 text → decoded_text (escaped text) ≡ text
unfolding decoded_text
text_back text small is =
    ap (λ l. utf8_lossy (percent_decode l))
    (map-plus_to_space (escaped text) (All-weaker (λ b. is_quiet b ≡ true) (λ b. b ≢ 43) no_plus (escaped text) (escaped_quiet text)))
    ∙ ap (λ l. utf8_lossy (percent_decode l)) (sym (text_escaped text)) ∙ ap utf8_lossy (round_trip ESCAPED text refl small) ∙ utf8_lossy-IsUtf8 text is
