-- Values that are written are read back.
use Rattle.std.proofs.Common.{◌≡◌, ℕ, suc, ◌/◌, ◌%◌, ◌≤◌, ◌==◌, true, ◌&&◌, refl, sym, ap, ◌∙◌, arith, ℤ, pos, negsuc, neg_ℤ, ◌+ℤ◌}
use Rattle.std.proofs.Common.{int_lt, unsigned_abs, nat_le, None, Some, List, [], ◌∷◌, ◌++◌, length, take, codes, slice_index, subst, if◌then◌else◌}
use Rattle.std.specs.Option.{option_map}
use Rattle.std.specs.Str.{bytes_eq}
use Rattle.std.proofs.lemmas.Bool.{cond_both, cond-true, cond-false, and_from, le-leb}
use Rattle.std.proofs.lemmas.Bool.Decides.{nat_tests}
use Rattle.std.proofs.lemmas.Int.{ints}
use Rattle.jiff_core.specs.Calendar.{IsWithin}
use Rattle.jiff_core.proofs.SignedLemmas.{signed_arith, one_part}
use Rattle.td_civil.specs.declared.moment_type.Moment.{Moment}
use Rattle.td_civil.specs.Bounds.{HasText}
use Rattle.td_civil.specs.Calendar.{text_of}
use Rattle.td_civil.specs.Reading.{moment_in}
use Rattle.td_civil.specs.Stamp.{two_digits}
use Rattle.td_civil.proofs.lemmas.ReadBack.{two_back}
use Rattle.td_civil.proofs.lemmas.Shown.{reads_back_lem}
use Rattle.td_civil.proofs.lemmas.Spelled.{text_same}
use Rattle.jcal.specs.Values.{local_text, jcal_offset_text, jcal_sign_of, jcal_seconds_text, jcal_local_in, jcal_utc_in, jcal_size_in, jcal_signed_by}
use Rattle.jcal.specs.Values.{jcal_offset_in}

local_whole : (m : ℤ) → take 19 (text_of m) ++ codes "Z" ≡ text_of m
unfolding text_of
local_whole m = refl

local_length : (m : ℤ) → (length (take 19 (text_of m)) == 19) ≡ true
unfolding text_of
local_length m = refl

pub local_back : (m o : ℤ) → HasText (m +ℤ o) → jcal_local_in (local_text m o) ≡ Some (m +ℤ o)
unfolding jcal_local_in local_text
local_back m o h =
    let t = m +ℤ o in
    cond-true (length (take 19 (text_of t)) == 19) (moment_in (take 19 (text_of t) ++ codes "Z")) None (local_length t)
    ∙ ap moment_in (local_whole t) ∙ reads_back_lem t h

pub utc_back : (m : Moment) → HasText m.seconds → jcal_utc_in (text_of m.seconds) ≡ Some m
unfolding jcal_utc_in
utc_back m h = ap (option_map (λ (t : ℤ). record { seconds = t })) (reads_back_lem m.seconds h)

-- ---- offsets

-- an offset of so many seconds, behind its sign
abbrev behind : ℕ → ℕ → List ℕ
behind sign n = sign ∷ two_digits (n / 3600) ++ (58 ∷ two_digits (n % 3600 / 60)) ++ jcal_seconds_text (n % 60)

is_zero : (n : ℕ) → (n == 0) ≡ true → n ≡ 0
is_zero n e = grind (arith, nat_tests)

size_back : (sign n : ℕ) → n ≤ 86399 → jcal_size_in (behind sign n) ≡ n
size_back sign n h =
    cond_both (n % 60 == 0) [] (58 ∷ two_digits (n % 60))
    (λ t. jcal_size_in (sign ∷ two_digits (n / 3600) ++ (58 ∷ two_digits (n % 3600 / 60)) ++ t) ≡ n)
    (λ none. let left = is_zero (n % 60) none in omega (arith, two_back (n / 3600) (omega arith), two_back (n % 3600 / 60) (omega arith)))
    (λ some. omega (arith, two_back (n / 3600) (omega arith), two_back (n % 3600 / 60) (omega arith), two_back (n % 60) (omega arith)))

sign_pos : (n : ℕ) → jcal_sign_of (pos n) ≡ 43
sign_pos n = cond-false (int_lt (pos n) (pos 0)) 45 43 (grind (arith, ints))

sign_neg : (n : ℕ) → jcal_sign_of (negsuc n) ≡ 45
sign_neg n = cond-true (int_lt (negsuc n) (pos 0)) 45 43 (grind (arith, ints))

-- what is found at the fixed places
offset_found : (z : ℤ) → IsWithin 86399 z → jcal_signed_by (jcal_sign_of z) (jcal_size_in (jcal_offset_text z)) ≡ z
unfolding jcal_offset_text
offset_found (pos n) h = rw (sign_pos n) (ap pos (size_back 43 n (omega (arith, signed_arith, h))))
offset_found (negsuc n) h = rw (sign_neg n) (ap (λ k. neg_ℤ (pos k)) (size_back 45 (suc n) (omega (arith, signed_arith, h))))

short_enough : (z : ℤ) → IsWithin 86399 z → nat_le (unsigned_abs z) 86399 ≡ true
short_enough z h = le-leb _ _ (omega (arith, signed_arith, h, one_part z))

first_sign : (z : ℤ) → slice_index (jcal_offset_text z) 0 ≡ jcal_sign_of z
unfolding jcal_offset_text
first_sign z = refl

pub offset_back : (z : ℤ) → IsWithin 86399 z → jcal_offset_in (jcal_offset_text z) ≡ Some z
unfolding jcal_offset_in
offset_back z h =
    let text = jcal_offset_text z in
    let is : jcal_signed_by (slice_index text 0) (jcal_size_in text) ≡ z = ap (λ s. jcal_signed_by s (jcal_size_in text)) (first_sign z) ∙ offset_found z h in
    let P : ℤ → Type 0 = λ o. (if nat_le (unsigned_abs o) 86399 && bytes_eq text (jcal_offset_text o) then Some o else None) ≡ Some z in
    subst P (sym is)
    (cond-true (nat_le (unsigned_abs z) 86399 && bytes_eq text text) (Some z) None
    (and_from (nat_le (unsigned_abs z) 86399) (bytes_eq text text) (short_enough z h) (text_same text text refl)))
