-- Texts whose bytes stand for themselves are ASCII, and the values of properties are such texts.
use Rattle.std.proofs.Common.{◌≡◌, ℕ, suc, ◌+◌, ◌/◌, ◌%◌, ◌==◌, ◌<◌, ◌≤◌, ◌^◌, true, List, [], ◌∷◌, ◌++◌, take, IsUtf8, IsAscii, arith, refl}
use Rattle.std.proofs.Common.{◌∙◌, ℤ, pos, negsuc, ◌+ℤ◌, int_lt, unsigned_abs, decimal}
use Rattle.std.specs.Fmt.{signed_decimal}
use Rattle.std.specs.List.{list_all}
use Rattle.std.proofs.lemmas.Bool.{and_from, and_parts, cond_both}
use Rattle.std.proofs.lemmas.Bool.Decides.{nat_tests}
use Rattle.std.proofs.lemmas.Fmt.{decimal_by_steps}
use Rattle.std.proofs.lemmas.List.Folds.{list_all-append}
use Rattle.std.proofs.lemmas.Str.{IsUtf8-from_ascii}
use Rattle.std.proofs.lemmas.Str.Ascii.{IsAscii-nil, IsAscii-cons}
use Rattle.td_civil.specs.Stamp.{Stamp, spelling, two_digits}
use Rattle.td_civil.specs.Calendar.{stamp_of, text_of}
use Rattle.recurrence.specs.Spellable.{is_safe, IsSafe}
use Rattle.recurrence.specs.Weekdays.{weekday_name}
use Rattle.jcal.specs.Values.{local_text, jcal_offset_text, jcal_seconds_text, jcal_sign_of}

below_128 : (b : ℕ) → is_safe b ≡ true → b < 128
below_128 b safe = grind (arith, nat_tests)

safe_ascii : (text : List ℕ) → IsSafe text → IsAscii text
safe_ascii [] safe = IsAscii-nil
safe_ascii (b ∷ bs) safe =
    let parts = and_parts (is_safe b) (list_all is_safe bs) safe in
    IsAscii-cons b bs (below_128 b parts.0) (safe_ascii bs parts.1)

pub safe_is_utf8 : (text : List ℕ) → IsSafe text → IsUtf8 text
safe_is_utf8 text safe = IsUtf8-from_ascii text (safe_ascii text safe)

safe-append : (a b : List ℕ) → IsSafe a → IsSafe b → IsSafe (a ++ b)
safe-append a b x y = list_all-append is_safe a b ∙ and_from (list_all is_safe a) (list_all is_safe b) x y

digit_is_safe : (n : ℕ) → is_safe (48 + n % 10) ≡ true
digit_is_safe n = grind (arith, nat_tests)

spelling_is_safe : (s : Stamp) → IsSafe (spelling s)
spelling_is_safe s = simp digit_is_safe

pub moment_is_safe : (text : List ℕ) (m : ℤ) → text ≡ text_of m → IsSafe text
unfolding text_of
moment_is_safe text m is = rw is (spelling_is_safe (stamp_of m))

local_spelling_is_safe : (s : Stamp) → IsSafe (take 19 (spelling s))
local_spelling_is_safe s = simp digit_is_safe

pub local_is_safe : (text : List ℕ) (m offset : ℤ) → text ≡ local_text m offset → IsSafe text
unfolding local_text text_of
local_is_safe text m offset is = rw is (local_spelling_is_safe (stamp_of (m +ℤ offset)))

two_are_safe : (n : ℕ) → IsSafe (two_digits n)
two_are_safe n = simp digit_is_safe

sign_is_safe : (z : ℤ) → is_safe (jcal_sign_of z) ≡ true
sign_is_safe z = cond_both (int_lt z (pos 0)) 45 43 (λ b. is_safe b ≡ true) (λ _. refl) (λ _. refl)

seconds_are_safe : (n : ℕ) → IsSafe (jcal_seconds_text n)
seconds_are_safe n = cond_both (n == 0) [] (58 ∷ two_digits n) IsSafe (λ _. refl) (λ _. two_are_safe n)

pub offset_is_safe : (text : List ℕ) (z : ℤ) → text ≡ jcal_offset_text z → IsSafe text
unfolding jcal_offset_text
offset_is_safe text z is =
    let size = unsigned_abs z in
    let hours = jcal_sign_of z ∷ two_digits (size / 3600) in
    let minutes = 58 ∷ two_digits (size % 3600 / 60) in
    rw is (safe-append (hours ++ minutes) (jcal_seconds_text (size % 60))
    (safe-append hours minutes (and_from (is_safe (jcal_sign_of z)) (list_all is_safe (two_digits (size / 3600))) (sign_is_safe z) (two_are_safe (size / 3600)))
    (two_are_safe (size % 3600 / 60))) (seconds_are_safe (size % 60)))

name_is_safe : (weekday : ℕ) → IsSafe (weekday_name weekday)
unfolding weekday_name
name_is_safe weekday =
    cond_both (weekday == 0) _ _ IsSafe (λ _. refl) (λ _. cond_both (weekday == 1) _ _ IsSafe (λ _. refl)
    (λ _. cond_both (weekday == 2) _ _ IsSafe (λ _. refl) (λ _. cond_both (weekday == 3) _ _ IsSafe (λ _. refl)
    (λ _. cond_both (weekday == 4) _ _ IsSafe (λ _. refl) (λ _. cond_both (weekday == 5) _ _ IsSafe (λ _. refl) (λ _. refl))))))

pub weekday_is_safe : (text : List ℕ) (weekday : ℕ) → text ≡ weekday_name weekday → IsSafe text
weekday_is_safe text weekday is = rw is (name_is_safe weekday)

decimal_is_safe : (n : ℕ) → n < 2 ^ 64 → IsSafe (decimal n)
decimal_is_safe n h =
    decimal_by_steps (λ m ds. IsSafe ds) (λ m lt. and_from (is_safe (48 + m)) true (digit_below m lt) refl)
    (λ m ds le e. safe-append ds ((48 + m % 10) ∷ []) e (and_from (is_safe (48 + m % 10)) true (digit_is_safe m) refl)) n h
  where
    digit_below : (m : ℕ) → m < 10 → is_safe (48 + m) ≡ true
    digit_below m lt = grind (arith, nat_tests)

signed_is_safe : (z : ℤ) → unsigned_abs z ≤ 1000 → IsSafe (signed_decimal z)
signed_is_safe (pos n) h = decimal_is_safe n (omega arith)
signed_is_safe (negsuc n) h = and_from (is_safe 45) (list_all is_safe (decimal (suc n))) refl (decimal_is_safe (suc n) (omega arith))

pub nth_weekday_is_safe : (text : List ℕ) (nth : ℤ) (weekday : ℕ) → text ≡ signed_decimal nth ++ weekday_name weekday → unsigned_abs nth ≤ 1000
    → IsSafe text
nth_weekday_is_safe text nth weekday is small =
    rw is (safe-append (signed_decimal nth) (weekday_name weekday) (signed_is_safe nth small) (name_is_safe weekday))
