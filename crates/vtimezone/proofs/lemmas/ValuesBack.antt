-- Values that are written are read back.
use Rattle.std.proofs.Common.{◌≡◌, ℕ, suc, ◌+◌, ◌*◌, ◌-◌, ◌/◌, ◌%◌, ◌≤◌, ◌==◌}
use Rattle.std.proofs.Common.{nat_lt, true, false, not, ◌&&◌, if◌then◌else◌, refl, sym, ap, subst}
use Rattle.std.proofs.Common.{◌∙◌, arith, ℤ, pos, negsuc, ◌+ℤ◌, int_lt}
use Rattle.std.proofs.Common.{None, Some, List, [], ◌∷◌, ◌++◌, take, drop}
use Rattle.std.specs.Char.{is_ascii_digit}
use Rattle.std.specs.List.{list_all}
use Rattle.std.specs.Str.{all_ascii_digits}
use Rattle.std.proofs.lemmas.Bool.{cond_both, cond-true, cond-false, and_from, and_parts}
use Rattle.std.proofs.lemmas.Bool.{lt-ltb}
use Rattle.std.proofs.lemmas.Bool.Decides.{nat_tests}
use Rattle.std.proofs.lemmas.Int.{ints}
use Rattle.jiff_core.specs.Calendar.{IsWithin}
use Rattle.jiff_core.proofs.CalendarLemmas.{days_in_month_bounds}
use Rattle.jiff_core.proofs.SignedLemmas.{signed_arith}
use Rattle.td_civil.specs.declared.moment_type.Moment.{Moment}
use Rattle.td_civil.specs.Bounds.{HasText}
use Rattle.td_civil.specs.Calendar.{stamp_of, local_text_of}
use Rattle.td_civil.specs.Reading.{is_stamp}
use Rattle.td_civil.specs.Stamp.{Stamp, IsStamp, two_digits, basic_spelling, moment_at}
use Rattle.td_civil.proofs.lemmas.ReadBack.{two_back, four_back, same_fields}
use Rattle.td_civil.proofs.lemmas.Shown.{stamp_of_valid, stamp_of_moment}
use Rattle.td_civil.proofs.lemmas.Spelled.{stamp_from}
use Rattle.recurrence.specs.AllRead.{put_before}
use Rattle.recurrence.specs.Spellable.{is_safe, IsSafe}
use Rattle.vtimezone.specs.ReadValues.{fields_in, is_date_time, local_in, utc_in, is_hours, size_in}
use Rattle.vtimezone.specs.ReadValues.{signed_by, offset_in, text_after, text_value}
use Rattle.vtimezone.specs.Values.{sign_of, seconds_text, offset_text, utc_basic}

-- ---- local times and moments

pub digit : (n : ℕ) → is_ascii_digit (48 + n % 10) ≡ true
digit n = grind (arith, nat_tests)

pub one_more : (b : ℕ) (bs : List ℕ) → is_ascii_digit b ≡ true → all_ascii_digits bs ≡ true → all_ascii_digits (b ∷ bs) ≡ true
one_more b bs x y = and_from (is_ascii_digit b) (all_ascii_digits bs) x y

pub two_more : (n : ℕ) (bs : List ℕ) → all_ascii_digits bs ≡ true → all_ascii_digits (two_digits n ++ bs) ≡ true
two_more n bs h = one_more (48 + n / 10 % 10) ((48 + n % 10) ∷ bs) (digit (n / 10)) (one_more (48 + n % 10) bs (digit n) h)

pub six_digits : (a b c : ℕ) → all_ascii_digits (two_digits a ++ (two_digits b ++ (two_digits c ++ []))) ≡ true
six_digits a b c = two_more a (two_digits b ++ (two_digits c ++ [])) (two_more b (two_digits c ++ []) (two_more c [] refl))

pub date_digits : (s : Stamp) → all_ascii_digits (take 8 (basic_spelling s)) ≡ true
date_digits s =
    let rest = two_digits s.year ++ (two_digits s.month ++ (two_digits s.day ++ [])) in
    one_more (48 + s.year / 1000 % 10) ((48 + s.year / 100 % 10) ∷ rest) (digit (s.year / 1000))
    (one_more (48 + s.year / 100 % 10) rest (digit (s.year / 100)) (six_digits s.year s.month s.day))

pub is_written : (s : Stamp) → is_date_time (basic_spelling s) ≡ true
is_written s =
    let text = basic_spelling s in
    and_from (all_ascii_digits (take 8 text) && true) (all_ascii_digits (drop 9 text))
    (and_from (all_ascii_digits (take 8 text)) true (date_digits s) refl) (six_digits s.hour s.minute s.second)

pub fields_back : (s : Stamp) → IsStamp s → fields_in (basic_spelling s) ≡ s
fields_back s h =
    let longest = days_in_month_bounds (pos s.year) s.month in
    let last : s.day ≤ 31 = omega (arith, h.day, longest) in
    same_fields (fields_in (basic_spelling s)) s (four_back s.year h.year) (two_back s.month (omega (arith, h.month))) (two_back s.day (omega arith))
    (two_back s.hour (omega (arith, h.hour))) (two_back s.minute (omega (arith, h.minute))) (two_back s.second (omega (arith, h.second)))

pub stamp_back : (s : Stamp) → IsStamp s → local_in (basic_spelling s) ≡ Some (moment_at s)
unfolding local_in
stamp_back s h =
    let text = basic_spelling s in
    let back = fields_back s h in
    let valid : is_stamp (fields_in text) ≡ true = ap is_stamp back ∙ stamp_from s h in
    cond-true (is_date_time text && is_stamp (fields_in text)) (Some (moment_at (fields_in text))) None
    (and_from (is_date_time text) (is_stamp (fields_in text)) (is_written s) valid)
    ∙ ap (λ t. Some (moment_at t)) back

pub local_back : (m o : ℤ) → HasText (m +ℤ o) → local_in (local_text_of m o) ≡ Some (m +ℤ o)
unfolding local_text_of
local_back m o h = stamp_back (stamp_of (m +ℤ o)) (stamp_of_valid (m +ℤ o) h) ∙ ap Some (sym (stamp_of_moment (m +ℤ o) h))

pub no_offset : (m : ℤ) → m +ℤ pos 0 ≡ m
no_offset m = omega (arith, signed_arith)

pub utc_back : (m : Moment) → HasText m.seconds → utc_in (utc_basic m.seconds) ≡ Some m
unfolding utc_in utc_basic local_text_of
utc_back m h =
    let P : ℤ → Type 0 = λ t. HasText t in
    let within : HasText (m.seconds +ℤ pos 0) = subst P (sym (no_offset m.seconds)) h in
    let s = stamp_of (m.seconds +ℤ pos 0) in
    let is : moment_at s ≡ m.seconds = sym (stamp_of_moment (m.seconds +ℤ pos 0) within) ∙ no_offset m.seconds in
    rw (stamp_back s (stamp_of_valid (m.seconds +ℤ pos 0) within)) (ap (λ (t : ℤ). Some (record { seconds = t })) is)

-- ---- offsets

-- the digits of hours, minutes and seconds
abbrev pub hours : ℕ → List ℕ
hours n = two_digits (n / 3600) ++ two_digits (n % 3600 / 60)

pub is_hours_4 : (n : ℕ) → n ≤ 86399 → is_hours (hours n ++ []) ≡ true
is_hours_4 n h =
    let h24 : nat_lt (10 * (48 + n / 3600 / 10 % 10 - 48) + (48 + n / 3600 % 10 - 48)) 24 ≡ true = lt-ltb _ _ (omega arith) in
    let m60 : nat_lt (10 * (48 + n % 3600 / 60 / 10 % 10 - 48) + (48 + n % 3600 / 60 % 10 - 48)) 60 ≡ true = lt-ltb _ _ (omega arith) in
    and_from _ true (and_from _ _ (and_from _ _ (two_more (n / 3600) (two_digits (n % 3600 / 60)) (two_more (n % 3600 / 60) [] refl)) h24) m60) refl

pub is_hours_6 : (n : ℕ) → n ≤ 86399 → is_hours (hours n ++ two_digits (n % 60)) ≡ true
is_hours_6 n h =
    let h24 : nat_lt (10 * (48 + n / 3600 / 10 % 10 - 48) + (48 + n / 3600 % 10 - 48)) 24 ≡ true = lt-ltb _ _ (omega arith) in
    let m60 : nat_lt (10 * (48 + n % 3600 / 60 / 10 % 10 - 48) + (48 + n % 3600 / 60 % 10 - 48)) 60 ≡ true = lt-ltb _ _ (omega arith) in
    let s60 : nat_lt (10 * (48 + n % 60 / 10 % 10 - 48) + (48 + n % 60 % 10 - 48)) 60 ≡ true = lt-ltb _ _ (omega arith) in
    and_from _ _ (and_from _ _ (and_from _ _ (six_digits (n / 3600) (n % 3600 / 60) (n % 60)) h24) m60) s60

pub size_4 : (n : ℕ) → n ≤ 86399 → n % 60 ≡ 0 → size_in (hours n ++ []) ≡ n
size_4 n h e = omega (arith, two_back (n / 3600) (omega arith), two_back (n % 3600 / 60) (omega arith))

pub size_6 : (n : ℕ) → n ≤ 86399 → size_in (hours n ++ two_digits (n % 60)) ≡ n
size_6 n h = omega (arith, two_back (n / 3600) (omega arith), two_back (n % 3600 / 60) (omega arith), two_back (n % 60) (omega arith))

pub is_zero : (n : ℕ) → (n == 0) ≡ true → n ≡ 0
is_zero n e = grind (arith, nat_tests)

pub hours_back : (sign n : ℕ) → n ≤ 86399 → offset_in (sign ∷ (hours n ++ seconds_text (n % 60))) ≡ signed_by sign n
unfolding offset_in
hours_back sign n h =
    cond_both (n % 60 == 0) [] (two_digits (n % 60)) (λ t. offset_in (sign ∷ (hours n ++ t)) ≡ signed_by sign n)
    (λ none. cond-true (is_hours (hours n ++ [])) (signed_by sign (size_in (hours n ++ []))) None (is_hours_4 n h)
    ∙ ap (signed_by sign) (size_4 n h (is_zero (n % 60) none)))
    (λ some. cond-true (is_hours (hours n ++ two_digits (n % 60))) (signed_by sign (size_in (hours n ++ two_digits (n % 60)))) None (is_hours_6 n h)
    ∙ ap (signed_by sign) (size_6 n h))

pub sign_pos : (n : ℕ) → sign_of (pos n) ≡ 43
sign_pos n = cond-false (int_lt (pos n) (pos 0)) 45 43 (grind (arith, ints))

pub sign_neg : (n : ℕ) → sign_of (negsuc n) ≡ 45
sign_neg n = cond-true (int_lt (negsuc n) (pos 0)) 45 43 (grind (arith, ints))

pub minus : (n : ℕ) → signed_by 45 (suc n) ≡ Some (negsuc n)
minus n = cond-true (not (suc n == 0)) (Some (negsuc n)) None (grind (arith, nat_tests))

pub offset_back : (z : ℤ) → IsWithin 86399 z → offset_in (offset_text z) ≡ Some z
unfolding offset_text
offset_back (pos n) h =
    rw (sign_pos n) (hours_back 43 n (omega (arith, signed_arith, h)))
offset_back (negsuc n) h =
    rw (sign_neg n) (hours_back 45 (suc n) (omega (arith, signed_arith, h)) ∙ minus n)

-- ---- texts

pub safe_clean : (b : ℕ) → is_safe b ≡ true → (b == 92) ≡ false
safe_clean b h = grind (arith, nat_tests)

pub text_back : (t : List ℕ) → IsSafe t → text_value t ≡ Some t
unfolding text_after
text_back [] h = refl
text_back (b ∷ bs) h =
    let both = and_parts (is_safe b) (list_all is_safe bs) h in
    cond-false (b == 92) (text_after true bs) (put_before (if is_safe b then Some b else None) (text_after false bs)) (safe_clean b both.0)
    ∙ ap (λ o. put_before o (text_after false bs)) (cond-true (is_safe b) (Some b) None both.0)
    ∙ ap (put_before (Some b)) (text_back bs both.1)
