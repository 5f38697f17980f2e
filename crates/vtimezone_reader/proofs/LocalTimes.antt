-- A local time of digits is the text of a moment without its separators.
use Rattle.std.proofs.Common.{◌≡◌, ℕ, zero, suc, ◌+◌, ◌*◌, ◌-◌, ◌/◌, ◌%◌, ◌<◌, ◌≤◌, ◌==◌, Bool, true, false, ◌&&◌, if◌then◌else◌, refl, sym, ap, ◌∙◌, arith, ℤ}
use Rattle.std.proofs.Common.{Option, None, Some, List, [], ◌∷◌, ◌++◌, length, take, drop, get_or, slice_index, bytes_eq, nat_le}
use Rattle.std.specs.Char.{is_ascii_digit}
use Rattle.std.specs.Str.{all_ascii_digits}
use Rattle.std.proofs.lemmas.Bool.{and_parts}
use Rattle.std.proofs.lemmas.Bool.Decides.{nat_tests}
use Rattle.std.proofs.lemmas.List.{get_or-take, get_or-drop, length-take, length-drop, take_all}
use Rattle.std.proofs.lemmas.Slice.Eq.{bytes_eq-Decides}
use Rattle.td_civil.specs.Reading.{is_stamp, moment_in}
use Rattle.td_civil.specs.Stamp.{moment_at, spelling, two_digits}
use Rattle.vtimezone.specs.ReadValues.{fields_in, is_date_time, local_in, is_hours, size_in, signed_by, offset_in}
use Rattle.vtimezone_reader.specs.Separated.{separated}

abbrev IsDigit : ℕ → Type 0
IsDigit b = (48 ≤ b) × (b ≤ 57)

digit : (b : ℕ) → is_ascii_digit b ≡ true → IsDigit b
digit b e =
    let both = and_parts (nat_le 48 b) (nat_le b 57) e in
    let low = both.0 in let high = both.1 in
    (grind (arith, nat_tests), grind (arith, nat_tests))

digit_at : (ds : List ℕ) (i : ℕ) → all_ascii_digits ds ≡ true → i < length ds → IsDigit (get_or ds i 0)
digit_at [] i e lt = absurd (omega arith)
digit_at (b ∷ bs) zero e lt = digit b (and_parts (is_ascii_digit b) (all_ascii_digits bs) e).0
digit_at (b ∷ bs) (suc i) e lt = digit_at bs i (and_parts (is_ascii_digit b) (all_ascii_digits bs) e).1 (omega arith)

abbrev two_of : ℕ → ℕ → ℕ
two_of a b = 10 * (a - 48) + (b - 48)

first_of_two : (a b : ℕ) → IsDigit a → IsDigit b → 48 + two_of a b / 10 % 10 ≡ a
first_of_two a b x y = omega (arith, x, y)

second_of_two : (a b : ℕ) → IsDigit a → IsDigit b → 48 + two_of a b % 10 ≡ b
second_of_two a b x y = omega (arith, x, y)

abbrev four_of : ℕ → ℕ → ℕ → ℕ → ℕ
four_of a b c d = 100 * two_of a b + two_of c d

first_of_four : (a b c d : ℕ) → IsDigit a → IsDigit b → IsDigit c → IsDigit d → 48 + four_of a b c d / 1000 % 10 ≡ a
first_of_four a b c d x y z w = omega (arith, x, y, z, w)

second_of_four : (a b c d : ℕ) → IsDigit a → IsDigit b → IsDigit c → IsDigit d → 48 + four_of a b c d / 100 % 10 ≡ b
second_of_four a b c d x y z w = omega (arith, x, y, z, w)

third_of_four : (a b c d : ℕ) → IsDigit a → IsDigit b → IsDigit c → IsDigit d → 48 + four_of a b c d / 10 % 10 ≡ c
third_of_four a b c d x y z w = omega (arith, x, y, z, w)

last_of_four : (a b c d : ℕ) → IsDigit a → IsDigit b → IsDigit c → IsDigit d → 48 + four_of a b c d % 10 ≡ d
last_of_four a b c d x y z w = omega (arith, x, y, z, w)

four_are : (a b c d : ℕ) → IsDigit a → IsDigit b → IsDigit c → IsDigit d → (rest : List ℕ)
    → a ∷ b ∷ c ∷ d ∷ rest
    ≡ (48 + four_of a b c d / 1000 % 10) ∷ (48 + four_of a b c d / 100 % 10) ∷ (48 + four_of a b c d / 10 % 10) ∷ (48 + four_of a b c d % 10) ∷ rest
four_are a b c d x y z w rest =
    sym (ap (λ n. n ∷ (48 + four_of a b c d / 100 % 10) ∷ (48 + four_of a b c d / 10 % 10) ∷ (48 + four_of a b c d % 10) ∷ rest) (first_of_four a b c d x y z w)
    ∙ ap (λ n. a ∷ n ∷ (48 + four_of a b c d / 10 % 10) ∷ (48 + four_of a b c d % 10) ∷ rest) (second_of_four a b c d x y z w)
    ∙ ap (λ n. a ∷ b ∷ n ∷ (48 + four_of a b c d % 10) ∷ rest) (third_of_four a b c d x y z w)
    ∙ ap (λ n. a ∷ b ∷ c ∷ n ∷ rest) (last_of_four a b c d x y z w))

two_are : (a b : ℕ) → IsDigit a → IsDigit b → (rest : List ℕ) → a ∷ b ∷ rest ≡ (48 + two_of a b / 10 % 10) ∷ (48 + two_of a b % 10) ∷ rest
two_are a b x y rest =
    sym (ap (λ n. n ∷ (48 + two_of a b % 10) ∷ rest) (first_of_two a b x y) ∙ ap (λ n. a ∷ n ∷ rest) (second_of_two a b x y))

tests : (s b d : Bool) (x y : Option ℤ) → b ≡ true → d ≡ true → (if s && b then x else y) ≡ (if d && s then x else y)
tests true b d x y e h = rw (e, h) refl
tests false b d x y e h = rw h refl

separated_is : (text : List ℕ) → is_date_time text ≡ true → separated text ≡ spelling (fields_in text)
separated_is text e =
    let last = and_parts ((length text == 15) && all_ascii_digits (take 8 text) && (slice_index text 8 == 84)) (all_ascii_digits (drop 9 text)) e in
    let third = and_parts ((length text == 15) && all_ascii_digits (take 8 text)) (slice_index text 8 == 84) last.0 in
    let two = and_parts (length text == 15) (all_ascii_digits (take 8 text)) third.0 in
    let long : length text ≡ 15 = is_same (length text) 15 two.0 in
    let t : slice_index text 8 ≡ 84 = is_same (slice_index text 8) 84 third.1 in
    let d : (i : ℕ) → i < 8 → IsDigit (get_or text i 0) = λ i lt. in_date text i long two.1 lt in
    let h : (i : ℕ) → i < 6 → IsDigit (get_or text (9 + i) 0) = λ i lt. in_time text i long last.1 lt in
    let n : ℕ → ℕ = λ i. slice_index text i in
    let second_text = two_digits (two_of (n 13) (n 14)) ++ (90 ∷ []) in
    let minute_text = two_digits (two_of (n 11) (n 12)) ++ (58 ∷ second_text) in
    let hour_text = two_digits (two_of (n 9) (n 10)) ++ (58 ∷ minute_text) in
    let day_text = two_digits (two_of (n 6) (n 7)) ++ (84 ∷ hour_text) in
    let month_text = two_digits (two_of (n 4) (n 5)) ++ (45 ∷ day_text) in
    ap (λ l. n 0 ∷ n 1 ∷ n 2 ∷ n 3 ∷ 45 ∷ n 4 ∷ n 5 ∷ 45 ∷ n 6 ∷ n 7 ∷ n 8 ∷ n 9 ∷ n 10 ∷ 58 ∷ n 11 ∷ n 12 ∷ 58 ∷ l)
    (two_are (n 13) (n 14) (h 4 (omega arith)) (h 5 (omega arith)) (90 ∷ []))
    ∙ ap (λ l. n 0 ∷ n 1 ∷ n 2 ∷ n 3 ∷ 45 ∷ n 4 ∷ n 5 ∷ 45 ∷ n 6 ∷ n 7 ∷ n 8 ∷ n 9 ∷ n 10 ∷ 58 ∷ l)
    (two_are (n 11) (n 12) (h 2 (omega arith)) (h 3 (omega arith)) (58 ∷ second_text))
    ∙ ap (λ l. n 0 ∷ n 1 ∷ n 2 ∷ n 3 ∷ 45 ∷ n 4 ∷ n 5 ∷ 45 ∷ n 6 ∷ n 7 ∷ n 8 ∷ l)
    (two_are (n 9) (n 10) (h 0 (omega arith)) (h 1 (omega arith)) (58 ∷ minute_text))
    ∙ ap (λ b. n 0 ∷ n 1 ∷ n 2 ∷ n 3 ∷ 45 ∷ n 4 ∷ n 5 ∷ 45 ∷ n 6 ∷ n 7 ∷ b ∷ hour_text) t
    ∙ ap (λ l. n 0 ∷ n 1 ∷ n 2 ∷ n 3 ∷ 45 ∷ n 4 ∷ n 5 ∷ 45 ∷ l)
    (two_are (n 6) (n 7) (d 6 (omega arith)) (d 7 (omega arith)) (84 ∷ hour_text))
    ∙ ap (λ l. n 0 ∷ n 1 ∷ n 2 ∷ n 3 ∷ 45 ∷ l) (two_are (n 4) (n 5) (d 4 (omega arith)) (d 5 (omega arith)) (45 ∷ day_text))
    ∙ four_are (n 0) (n 1) (n 2) (n 3) (d 0 (omega arith)) (d 1 (omega arith)) (d 2 (omega arith)) (d 3 (omega arith)) (45 ∷ month_text)
  where
    is_same : (a b : ℕ) → (a == b) ≡ true → a ≡ b
    is_same a b e = grind (arith, nat_tests)

    in_date : (text : List ℕ) (i : ℕ) → length text ≡ 15 → all_ascii_digits (take 8 text) ≡ true → i < 8 → IsDigit (get_or text i 0)
    in_date text i long e lt =
        let at : get_or (take 8 text) i 0 ≡ get_or text i 0 = get_or-take 8 text i 0 lt in
        rw at at (digit_at (take 8 text) i e (omega (arith, length-take 8 text)))

    in_time : (text : List ℕ) (i : ℕ) → length text ≡ 15 → all_ascii_digits (drop 9 text) ≡ true → i < 6 → IsDigit (get_or text (9 + i) 0)
    in_time text i long e lt =
        let at : get_or (drop 9 text) i 0 ≡ get_or text (9 + i) 0 = get_or-drop 9 text i 0 in
        rw at at (digit_at (drop 9 text) i e (omega (arith, length-drop 9 text)))

-- with its separators the time is read as that moment
pub local_is : (text : List ℕ) → is_date_time text ≡ true → moment_in (separated text) ≡ local_in text
unfolding moment_in local_in
local_is text e =
    let f = fields_in text in
    tests (is_stamp f) (bytes_eq (separated text) (spelling f)) (is_date_time text) (Some (moment_at f)) None
    ((bytes_eq-Decides (separated text) (spelling f)).1 (separated_is text e)) e

pub not_local : (text : List ℕ) → is_date_time text ≡ false → None ≡ local_in text
unfolding local_in
not_local text e = rw e refl

-- an offset is read by its sign and its hours
pub rest_is : (text : List ℕ) → take (length text - 1) (drop 1 text) ≡ drop 1 text
rest_is [] = refl
rest_is (b ∷ bs) = take_all (length (b ∷ bs) - 1) bs (omega arith)

pub offset_is : (text digits : List ℕ) (size : ℕ) → 1 ≤ length text → digits ≡ drop 1 text
    → Some size ≡ (if is_hours digits then Some (size_in digits) else None) → signed_by (slice_index text 0) size ≡ offset_in text
unfolding offset_in
offset_is [] digits size some same e = absurd (omega arith)
offset_is (sign ∷ rest) digits size some same e =
    by_case (is_hours digits) e ∙ ap (λ ds. if is_hours ds then signed_by sign (size_in ds) else None) same
  where
    by_case : (b : Bool) → Some size ≡ (if b then Some (size_in digits) else None)
        → signed_by sign size ≡ (if b then signed_by sign (size_in digits) else None)
    by_case true e = let same : size ≡ size_in digits = cc in ap (signed_by sign) same
    by_case false e = absurd (cc)
