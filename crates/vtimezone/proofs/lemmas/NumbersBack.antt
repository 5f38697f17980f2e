-- Numbers and weekdays between commas are read back, and hold no semicolon.
use Rattle.std.proofs.Common.{◌≡◌, ◌⊎◌, inl, inr, ℕ, zero, suc, ◌+◌, ◌/◌, ◌%◌, ◌^◌, ◌<◌, ◌≤◌}
use Rattle.std.proofs.Common.{◌==◌, Bool, true, false, not, refl, ap, subst, ◌∙◌, arith}
use Rattle.std.proofs.Common.{append_assoc, append-nil, ℤ, pos, negsuc, ◌+ℤ◌, unsigned_abs}
use Rattle.std.proofs.Common.{Some, List, [], ◌∷◌, ◌++◌, codes, map, decimal}
use Rattle.std.specs.Fmt.{signed_decimal}
use Rattle.std.specs.List.{list_all, onto_first}
use Rattle.std.proofs.lemmas.Bool.{cond-true, cond-false, and_from, and_parts}
use Rattle.std.proofs.lemmas.Bool.Decides.{nat_tests}
use Rattle.std.proofs.lemmas.Fmt.{decimal_by_steps}
use Rattle.std.proofs.lemmas.List.Folds.{list_all-append}
use Rattle.jiff_core.proofs.SignedLemmas.{signed_arith}
use Rattle.td_civil.specs.Calendar.{stamp_of, local_text_of}
use Rattle.td_civil.specs.Stamp.{two_digits, four_digits}
use Rattle.td_civil.specs.declared.moment_type.Moment.{Moment}
use Rattle.recurrence.specs.AllRead.{all_read}
use Rattle.recurrence.specs.Weekdays.{weekday_name, number_of_text, Day, day_of_text}
use Rattle.recurrence.proofs.lemmas.AllRead.{read_more}
use Rattle.recurrence.proofs.lemmas.FormFields.{numbers_after, next_numbers, AreShort}
use Rattle.recurrence.proofs.lemmas.Weekdays.{IsShort, short_back}
use Rattle.vtimezone.specs.Cutting.{cut_at}
use Rattle.vtimezone.specs.ReadRules.{numbers_in, days_in_value}
use Rattle.vtimezone.specs.Values.{dates_text, more_dates, utc_basic, next_number, seven_numbers}

-- ---- texts without a separator, and where they are cut

-- not this one
abbrev pub uncut : ℕ → List ℕ → Bool
uncut s text = list_all (λ b. not (b == s)) text

pub uncut-append : (s : ℕ) (a b : List ℕ) → uncut s a ≡ true → uncut s b ≡ true → uncut s (a ++ b) ≡ true
uncut-append s a b x y = list_all-append (λ b. not (b == s)) a b ∙ and_from (uncut s a) (uncut s b) x y

pub other : (b s : ℕ) → not (b == s) ≡ true → (b == s) ≡ false
other b s h = grind (arith, nat_tests)

pub cut_more : (s : ℕ) (x y : List ℕ) → uncut s x ≡ true → cut_at s (x ++ s ∷ y) ≡ x ∷ cut_at s y
cut_more s [] y h = cond-true (s == s) ([] ∷ cut_at s y) (onto_first s (cut_at s y)) (grind (arith, nat_tests))
cut_more s (b ∷ bs) y h =
    let both = and_parts (not (b == s)) (uncut s bs) h in
    cond-false (b == s) ([] ∷ cut_at s (bs ++ s ∷ y)) (onto_first b (cut_at s (bs ++ s ∷ y))) (other b s both.0)
    ∙ ap (onto_first b) (cut_more s bs y both.1)

pub cut_last : (s : ℕ) (x : List ℕ) → uncut s x ≡ true → cut_at s x ≡ x ∷ []
cut_last s [] h = refl
cut_last s (b ∷ bs) h =
    let both = and_parts (not (b == s)) (uncut s bs) h in
    cond-false (b == s) ([] ∷ cut_at s bs) (onto_first b (cut_at s bs)) (other b s both.0)
    ∙ ap (onto_first b) (cut_last s bs both.1)

-- texts, each after a separator
abbrev pub after_each : ℕ → List (List ℕ) → List ℕ
after_each s [] = []
after_each s (w ∷ ws) = (s ∷ w) ++ after_each s ws

abbrev pub are_uncut : ℕ → List (List ℕ) → Bool
are_uncut s ws = list_all (uncut s) ws

pub cut_each : (s : ℕ) (x : List ℕ) (ws : List (List ℕ)) → uncut s x ≡ true → are_uncut s ws ≡ true → cut_at s (x ++ after_each s ws) ≡ x ∷ ws
cut_each s x [] h each = ap (cut_at s) (append-nil x) ∙ cut_last s x h
cut_each s x (w ∷ ws) h each =
    let both = and_parts (uncut s w) (are_uncut s ws) each in
    cut_more s x (w ++ after_each s ws) h ∙ ap (λ l. x ∷ l) (cut_each s w ws both.0 both.1)

pub joined_uncut : (s t : ℕ) (ws : List (List ℕ)) → not (t == s) ≡ true → are_uncut s ws ≡ true → uncut s (after_each t ws) ≡ true
joined_uncut s t [] h each = refl
joined_uncut s t (w ∷ ws) h each =
    let both = and_parts (uncut s w) (are_uncut s ws) each in
    uncut-append s (t ∷ w) (after_each t ws) (and_from (not (t == s)) (uncut s w) h both.0) (joined_uncut s t ws h both.1)

-- ---- numbers have no separator

-- what ends a line, or a word of a rule
abbrev pub EndsWord : ℕ → Type 0
EndsWord s = (s ≡ 10) ⊎ (s ≡ 59)

-- or a comma
abbrev pub IsSeparator : ℕ → Type 0
IsSeparator s = (s ≡ 44) ⊎ EndsWord s

pub digit_uncut : (s n : ℕ) → IsSeparator s → n < 10 → not (48 + n == s) ≡ true
digit_uncut s n (inl is) h = grind (arith, nat_tests)
digit_uncut s n (inr (inl is)) h = grind (arith, nat_tests)
digit_uncut s n (inr (inr is)) h = grind (arith, nat_tests)

pub byte_uncut : (s b : ℕ) → not (b == s) ≡ true → uncut s (b ∷ []) ≡ true
byte_uncut s b h = and_from (not (b == s)) true h refl

pub decimal_uncut : (s n : ℕ) → IsSeparator s → n < 2 ^ 64 → uncut s (decimal n) ≡ true
decimal_uncut s n is h =
    decimal_by_steps (λ m ds. uncut s ds ≡ true) (λ m lt. byte_uncut s (48 + m) (digit_uncut s m is lt))
    (λ m ds le e. uncut-append s ds ((48 + m % 10) ∷ []) e (byte_uncut s (48 + m % 10) (digit_uncut s (m % 10) is (omega arith)))) n h

pub minus_uncut : (s : ℕ) → IsSeparator s → not (45 == s) ≡ true
minus_uncut s (inl is) = rw is refl
minus_uncut s (inr (inl is)) = rw is refl
minus_uncut s (inr (inr is)) = rw is refl

pub comma_uncut : (s : ℕ) → EndsWord s → not (44 == s) ≡ true
comma_uncut s (inl is) = rw is refl
comma_uncut s (inr is) = rw is refl

pub signed_uncut : (s : ℕ) (z : ℤ) → IsSeparator s → unsigned_abs z ≤ 1000 → uncut s (signed_decimal z) ≡ true
signed_uncut s (pos n) is h = decimal_uncut s n is (omega (arith, signed_arith))
signed_uncut s (negsuc n) is h =
    and_from (not (45 == s)) (uncut s (decimal (suc n))) (minus_uncut s is) (decimal_uncut s (suc n) is (omega (arith, signed_arith)))

pub letter_uncut : (s b : ℕ) → IsSeparator s → 65 ≤ b → not (b == s) ≡ true
letter_uncut s b (inl is) le = grind (arith, nat_tests)
letter_uncut s b (inr (inl is)) le = grind (arith, nat_tests)
letter_uncut s b (inr (inr is)) le = grind (arith, nat_tests)

pub letters_uncut : (s a b : ℕ) → IsSeparator s → 65 ≤ a → 65 ≤ b → uncut s (a ∷ b ∷ []) ≡ true
letters_uncut s a b is one two =
    and_from (not (a == s)) (uncut s (b ∷ [])) (letter_uncut s a is one) (byte_uncut s b (letter_uncut s b is two))

pub weekday_uncut : (s w : ℕ) → IsSeparator s → w ≤ 6 → uncut s (weekday_name w) ≡ true
unfolding weekday_name
weekday_uncut s zero is h = letters_uncut s 83 85 is (omega arith) (omega arith)
weekday_uncut s (suc zero) is h = letters_uncut s 77 79 is (omega arith) (omega arith)
weekday_uncut s (suc (suc zero)) is h = letters_uncut s 84 85 is (omega arith) (omega arith)
weekday_uncut s (suc (suc (suc zero))) is h = letters_uncut s 87 69 is (omega arith) (omega arith)
weekday_uncut s (suc (suc (suc (suc zero)))) is h = letters_uncut s 84 72 is (omega arith) (omega arith)
weekday_uncut s (suc (suc (suc (suc (suc zero))))) is h = letters_uncut s 70 82 is (omega arith) (omega arith)
weekday_uncut s (suc (suc (suc (suc (suc (suc zero)))))) is h = letters_uncut s 83 65 is (omega arith) (omega arith)
weekday_uncut s (suc (suc (suc (suc (suc (suc (suc w))))))) is h = absurd (omega arith)

pub two_uncut : (s n : ℕ) → IsSeparator s → uncut s (two_digits n) ≡ true
two_uncut s n is =
    and_from (not (48 + n / 10 % 10 == s)) (uncut s ((48 + n % 10) ∷ [])) (digit_uncut s (n / 10 % 10) is (omega arith))
    (byte_uncut s (48 + n % 10) (digit_uncut s (n % 10) is (omega arith)))

pub four_uncut : (s n : ℕ) → IsSeparator s → uncut s (four_digits n) ≡ true
four_uncut s n is =
    and_from (not (48 + n / 1000 % 10 == s)) (uncut s ((48 + n / 100 % 10) ∷ two_digits n)) (digit_uncut s (n / 1000 % 10) is (omega arith))
    (and_from (not (48 + n / 100 % 10 == s)) (uncut s (two_digits n)) (digit_uncut s (n / 100 % 10) is (omega arith)) (two_uncut s n is))

pub local_uncut : (s : ℕ) (m o : ℤ) → IsSeparator s → uncut s (local_text_of m o) ≡ true
unfolding local_text_of
local_uncut s m o is =
    let t = stamp_of (m +ℤ o) in
    let month = four_digits t.year ++ two_digits t.month in
    let day = month ++ two_digits t.day in
    let hour = day ++ 84 ∷ two_digits t.hour in
    let minute = hour ++ two_digits t.minute in
    uncut-append s minute (two_digits t.second)
    (uncut-append s hour (two_digits t.minute)
    (uncut-append s day (84 ∷ two_digits t.hour)
    (uncut-append s month (two_digits t.day)
    (uncut-append s (four_digits t.year) (two_digits t.month) (four_uncut s t.year is) (two_uncut s t.month is))
    (two_uncut s t.day is))
    (and_from (not (84 == s)) (uncut s (two_digits t.hour)) (letter_uncut s 84 is (omega arith)) (two_uncut s t.hour is)))
    (two_uncut s t.minute is))
    (two_uncut s t.second is)

pub utc_uncut : (s : ℕ) (m : ℤ) → IsSeparator s → uncut s (utc_basic m) ≡ true
unfolding utc_basic
utc_uncut s m is =
    uncut-append s (local_text_of m (pos 0)) (codes "Z") (local_uncut s m (pos 0) is) (byte_uncut s 90 (letter_uncut s 90 is (omega arith)))

-- ---- dates

abbrev pub local_texts : List Moment → ℤ → List (List ℕ)
local_texts dates offset = map (λ d. local_text_of d.seconds offset) dates

pub dates_are : (dates : List Moment) (offset : ℤ) → more_dates dates offset ≡ after_each 44 (local_texts dates offset)
dates_are [] offset = refl
dates_are (d ∷ ds) offset = ap (λ t. (44 ∷ local_text_of d.seconds offset) ++ t) (dates_are ds offset)

pub locals_uncut : (s : ℕ) (dates : List Moment) (offset : ℤ) → IsSeparator s → are_uncut s (local_texts dates offset) ≡ true
locals_uncut s [] offset is = refl
locals_uncut s (d ∷ ds) offset is =
    and_from (uncut s (local_text_of d.seconds offset)) (are_uncut s (local_texts ds offset)) (local_uncut s d.seconds offset is)
    (locals_uncut s ds offset is)

-- dates are cut at their commas
pub dates_cut : (first : Moment) (dates : List Moment) (offset : ℤ) → cut_at 44 (dates_text first dates offset) ≡ local_texts (first ∷ dates) offset
unfolding dates_text
dates_cut first dates offset =
    ap (λ t. cut_at 44 (local_text_of first.seconds offset ++ t)) (dates_are dates offset)
    ∙ cut_each 44 (local_text_of first.seconds offset) (local_texts dates offset) (local_uncut 44 first.seconds offset (inl refl))
    (locals_uncut 44 dates offset (inl refl))

-- and hold no line feed
pub dates_uncut : (first : Moment) (dates : List Moment) (offset : ℤ) → uncut 10 (dates_text first dates offset) ≡ true
unfolding dates_text
dates_uncut first dates offset =
    uncut-append 10 (local_text_of first.seconds offset) (more_dates dates offset) (local_uncut 10 first.seconds offset (inr (inl refl)))
    (ap (uncut 10) (dates_are dates offset)
    ∙ joined_uncut 10 44 (local_texts dates offset) refl (locals_uncut 10 dates offset (inr (inl refl))))

-- ---- lists of numbers and of weekdays

pub one_number_back : (places most : ℕ) (z : ℤ) → IsShort places most z → numbers_in places most (signed_decimal z) ≡ Some (z ∷ [])
one_number_back places most z h =
    ap (all_read (number_of_text places most)) (cut_last 44 (signed_decimal z) (signed_uncut 44 z (inl refl) h.small))
    ∙ read_more (number_of_text places most) (signed_decimal z) [] z [] (short_back places most z h) refl

-- the texts of n numbers in a row from the kth after this one
abbrev pub texts_after : ℤ → ℕ → ℕ → List (List ℕ)
texts_after z k zero = []
texts_after z k (suc n) = signed_decimal (z +ℤ pos k) ∷ texts_after z (suc k) n

abbrev pub next_texts : ℤ → List (List ℕ)
next_texts z = texts_after z 1 6

pub seven_are : (z : ℤ) → seven_numbers z ≡ signed_decimal z ++ after_each 44 (next_texts z)
unfolding seven_numbers next_number
seven_are z = simp (append_assoc, append-nil)

pub texts_uncut : (s : ℕ) (z : ℤ) (k n : ℕ) (places most : ℕ) → IsSeparator s → AreShort places most z → k + n ≤ 7 → are_uncut s (texts_after z k n) ≡ true
texts_uncut s z k zero places most is h le = refl
texts_uncut s z k (suc n) places most is h le =
    and_from (uncut s (signed_decimal (z +ℤ pos k))) (are_uncut s (texts_after z (suc k) n))
    (signed_uncut s (z +ℤ pos k) is ((h k (omega arith)).small)) (texts_uncut s z (suc k) n places most is h (omega arith))

pub texts_read : (z : ℤ) (k n : ℕ) (places most : ℕ) → AreShort places most z → k + n ≤ 7
    → all_read (number_of_text places most) (texts_after z k n) ≡ Some (numbers_after z k n)
texts_read z k zero places most h le = refl
texts_read z k (suc n) places most h le =
    read_more (number_of_text places most) (signed_decimal (z +ℤ pos k)) (texts_after z (suc k) n) (z +ℤ pos k) (numbers_after z (suc k) n)
    (short_back places most (z +ℤ pos k) (h k (omega arith))) (texts_read z (suc k) n places most h (omega arith))

pub no_more : (z : ℤ) → z +ℤ pos 0 ≡ z
no_more z = omega (arith, signed_arith)

pub seven_back : (z : ℤ) (places most : ℕ) → AreShort places most z → numbers_in places most (seven_numbers z) ≡ Some (z ∷ next_numbers z)
seven_back z places most h =
    let P : ℤ → Type 0 = λ n. IsShort places most n in
    let first : IsShort places most z = subst P (no_more z) (h 0 (omega arith)) in
    let cut = cut_each 44 (signed_decimal z) (next_texts z) (signed_uncut 44 z (inl refl) first.small)
    (texts_uncut 44 z 1 6 places most (inl refl) h (omega arith)) in
    ap (numbers_in places most) (seven_are z)
    ∙ ap (all_read (number_of_text places most)) cut
    ∙ read_more (number_of_text places most) (signed_decimal z) (next_texts z) z (next_numbers z) (short_back places most z first)
    (texts_read z 1 6 places most h (omega arith))

pub seven_uncut : (s : ℕ) (z : ℤ) (places most : ℕ) → EndsWord s → AreShort places most z → uncut s (seven_numbers z) ≡ true
seven_uncut s z places most is h =
    let P : ℤ → Type 0 = λ n. IsShort places most n in
    let first : IsShort places most z = subst P (no_more z) (h 0 (omega arith)) in
    ap (uncut s) (seven_are z)
    ∙ uncut-append s (signed_decimal z) (after_each 44 (next_texts z)) (signed_uncut s z (inr is) first.small)
    (joined_uncut s 44 (next_texts z) (comma_uncut s is) (texts_uncut s z 1 6 places most (inr is) h (omega arith)))

pub one_day : (t : List ℕ) (d : Day) → uncut 44 t ≡ true → day_of_text t ≡ Some d → days_in_value t ≡ Some (d ∷ [])
one_day t d h e = ap (all_read day_of_text) (cut_last 44 t h) ∙ read_more day_of_text t [] d [] e refl
