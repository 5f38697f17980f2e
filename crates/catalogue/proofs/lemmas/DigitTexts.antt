-- Tags and tokens are texts of hexadecimal digits.
use Rattle.std.proofs.Common.{◌≡◌, ℕ, zero, suc, ◌+◌, ◌*◌, ◌/◌, ◌%◌, ◌<◌, ◌^◌, true, List, [], ◌∷◌, ◌++◌, length, take, IsTrue, refl, ◌∙◌}
use Rattle.std.proofs.Common.{arith, ap, slice_index, length-append, ◌≤◌}
use Rattle.std.proofs.lemmas.Bool.{and_parts, le-leb}
use Rattle.std.proofs.lemmas.Bool.Decides.{nat_tests}
use Rattle.std.proofs.lemmas.Fmt.{decimal_by_steps, length-decimal-le}
use Rattle.std.proofs.lemmas.List.{length-replicate, length-take-le}
use Rattle.std.proofs.lemmas.List.Folds.{list_all-append}
use Rattle.std.specs.Prelude.{decimal, replicate}
use Rattle.std.specs.Int.{to_be_bytes, w32}
use Rattle.std.specs.List.{AllByRecursion, fold, list_all}
use Rattle.hex.specs.Hex.{encode_lower, encode_with, lower_digits}
use Rattle.sha2.specs.Sha256.{digest_bytes, sha256}
use Rattle.td_base.specs.Names.{IsPlain, is_printable}
use Rattle.catalogue.specs.Releases.{ContentData, ReleaseData}
use Rattle.catalogue.specs.Digests.{chain_of, content_bytes, content_digest, link_bytes, linked, tag_of, token_text}
use Rattle.catalogue.specs.Histories.{token_of}
use Rattle.catalogue.specs.Plain.{HasTokenForm, is_hex_digit, is_token, is_token_byte}

-- each byte of the text is a hexadecimal digit
abbrev AreDigits : List ℕ → Type 0
AreDigits text = IsTrue (list_all is_hex_digit text)

take_digits : (n : ℕ) (text : List ℕ) → AreDigits text → AreDigits (take n text)
take_digits zero text h = refl
take_digits (suc n) [] h = refl
take_digits (suc n) (b ∷ bs) h =
    let parts = and_parts (is_hex_digit b) (list_all is_hex_digit bs) h in
    rw (parts.0, take_digits n bs parts.1)

-- ---- numbers

one_digit : (n : ℕ) → n < 10 → AreDigits ((48 + n) ∷ [])
one_digit n small = grind (arith, nat_tests)

number_digits : (n : ℕ) → n < 2 ^ 64 → AreDigits (decimal n)
number_digits =
    decimal_by_steps (λ _ text. AreDigits text) one_digit
    (λ n ds more h. list_all-append is_hex_digit ds ((48 + n % 10) ∷ []) ∙ rw (h, one_digit (n % 10) (omega arith)))

-- ---- hexadecimal texts

digit_at : (text : List ℕ) (i : ℕ) → AreDigits text → i < length text → IsTrue (is_hex_digit (slice_index text i))
digit_at [] i h lt = absurd (omega arith)
digit_at (b ∷ bs) zero h lt = (and_parts (is_hex_digit b) (list_all is_hex_digit bs) h).0
digit_at (b ∷ bs) (suc i) h lt = digit_at bs i (and_parts (is_hex_digit b) (list_all is_hex_digit bs) h).1 (omega arith)

abbrev AreBytes : List ℕ → Type 0
AreBytes text = AllByRecursion (λ b. b < 256) text

hex_digits : (bytes : List ℕ) → AreBytes bytes → AreDigits (encode_lower bytes)
unfolding encode_with
hex_digits [] below = refl
hex_digits (b ∷ bs) below =
    let first : b < 256 = below.0 in
    let high : b / 16 < 16 = omega arith in
    let low : b % 16 < 16 = omega arith in
    rw (digit_at lower_digits (b / 16) refl high, digit_at lower_digits (b % 16) refl low, hex_digits bs below.1)

hex_length : (bytes : List ℕ) → length (encode_lower bytes) ≡ 2 * length bytes
unfolding encode_with
hex_length [] = refl
hex_length (b ∷ bs) = omega (arith, hex_length bs)

-- ---- digests are bytes

append_bytes : (a b : List ℕ) → AreBytes a → AreBytes b → AreBytes (a ++ b)
append_bytes [] b one two = two
append_bytes (x ∷ xs) b one two = (one.0, append_bytes xs b one.1 two)

word_bytes : (w : ℕ) → AreBytes (to_be_bytes w32 w)
word_bytes w = search arith

digest_are_bytes : (h : List ℕ) (n : ℕ) → AreBytes (digest_bytes h n)
unfolding digest_bytes
digest_are_bytes h zero = tt
digest_are_bytes h (suc n) =
    append_bytes (digest_bytes h n) (to_be_bytes w32 (slice_index h n)) (digest_are_bytes h n) (word_bytes (slice_index h n))

digest_length : (h : List ℕ) (n : ℕ) → length (digest_bytes h n) ≡ 4 * n
unfolding digest_bytes
digest_length h zero = refl
digest_length h (suc n) = omega (arith, length-append (digest_bytes h n) (to_be_bytes w32 (slice_index h n)), digest_length h n)

-- bytes of a digest
pub record IsDigest (text : List ℕ) : Type 0 where
  pub bytes : AreBytes text
  pub size : length text ≡ 32

sha256_digest : (m : List ℕ) → IsDigest (sha256 m)
unfolding sha256
sha256_digest m = record { bytes = digest_are_bytes _ 8; size = digest_length _ 8 }

zero_bytes : (n : ℕ) → AreBytes (replicate n 0)
zero_bytes zero = tt
zero_bytes (suc n) = (omega arith, zero_bytes n)

linked_digest : (H : List ReleaseData) (before : List ℕ) → IsDigest before → IsDigest (fold linked before H)
unfolding linked
linked_digest [] before is = is
linked_digest (r ∷ rs) before is = linked_digest rs (linked before r) (sha256_digest (link_bytes before r))

chain_digest : (H : List ReleaseData) → IsDigest (chain_of H)
unfolding chain_of
chain_digest H = linked_digest H (replicate 32 0) (record { bytes = zero_bytes 32; size = length-replicate {A = ℕ} 32 0 })

-- ---- tags and tokens

digit_plain : (b : ℕ) → is_hex_digit b ≡ true → is_printable b ≡ true
digit_plain b h = grind (arith, nat_tests)

digits_plain : (text : List ℕ) → AreDigits text → IsPlain text
digits_plain [] h = refl
digits_plain (b ∷ bs) h =
    let parts = and_parts (is_hex_digit b) (list_all is_hex_digit bs) h in
    rw (digit_plain b parts.0, digits_plain bs parts.1)

pub tag_plain : (c : ContentData) → IsPlain (tag_of c)
unfolding tag_of content_digest
tag_plain c =
    let digest = sha256_digest (content_bytes c) in
    digits_plain (take 32 (encode_lower (content_digest c))) (take_digits 32 (encode_lower (content_digest c)) (hex_digits (content_digest c) digest.bytes))

text_form : (n : ℕ) (chain : List ℕ) → n < 2 ^ 32 → IsDigest chain → HasTokenForm n (token_text n chain)
unfolding token_text
text_form n chain small digest = record {
  digits = take 16 (encode_lower chain);
  is = refl;
  sixteen = length-take-le 16 (encode_lower chain) (omega (arith, hex_length chain, digest.size));
  hex = take_digits 16 (encode_lower chain) (hex_digits chain digest.bytes);
  number = number_digits n (omega arith);
  ten = length-decimal-le 10 n (omega arith) (omega arith) (omega arith);
}

pub token_form : (H : List ReleaseData) (n : ℕ) → n < 2 ^ 32 → HasTokenForm n (token_of H n)
unfolding token_of
token_form H n small = text_form n (chain_of (take n H)) small (chain_digest (take n H))

form_plain : (n : ℕ) (text : List ℕ) → HasTokenForm n text → IsPlain text
form_plain n text form =
    rw form.is (list_all-append is_printable (decimal n) (45 ∷ form.digits)
    ∙ rw (digits_plain (decimal n) form.number, digits_plain form.digits form.hex))

pub token_plain : (H : List ReleaseData) (n : ℕ) → n < 2 ^ 32 → IsPlain (token_of H n)
token_plain H n small = form_plain n (token_of H n) (token_form H n small)

-- ---- tokens have no spaces

digit_visible : (b : ℕ) → is_hex_digit b ≡ true → is_token_byte b ≡ true
digit_visible b h = grind (arith, nat_tests)

digits_visible : (text : List ℕ) → AreDigits text → IsTrue (list_all is_token_byte text)
digits_visible [] h = refl
digits_visible (b ∷ bs) h =
    let parts = and_parts (is_hex_digit b) (list_all is_hex_digit bs) h in
    rw (digit_visible b parts.0, digits_visible bs parts.1)

form_visible : (n : ℕ) (text : List ℕ) → HasTokenForm n text → IsTrue (list_all is_token_byte text)
form_visible n text form =
    rw form.is (list_all-append is_token_byte (decimal n) (45 ∷ form.digits)
    ∙ rw (digits_visible (decimal n) form.number, digits_visible form.digits form.hex))

form_short : (n : ℕ) (text : List ℕ) → HasTokenForm n text → (1 ≤ length text) × (length text ≤ 64)
form_short n text form =
    let parts : length (decimal n ++ 45 ∷ form.digits) ≡ length (decimal n) + length (45 ∷ form.digits) =
    length-append (decimal n) (45 ∷ form.digits) in
    let size : length text ≡ length (decimal n) + 17 = ap length form.is ∙ omega (arith, parts, form.sixteen) in
    (omega (arith, size), omega (arith, size, form.ten))

pub token_is : (H : List ReleaseData) (n : ℕ) → n < 2 ^ 32 → IsTrue (is_token (token_of H n))
token_is H n small =
    let form = token_form H n small in
    let short = form_short n (token_of H n) form in
    rw (le-leb _ _ short.0, le-leb _ _ short.1, form_visible n (token_of H n) form)
