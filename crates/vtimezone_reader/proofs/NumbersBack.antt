-- Numbers and weekdays between commas are read back, and hold no semicolon.
use Rattle.std.proofs.Common.{◌≡◌, inl, inr, ℕ, zero, suc, ◌+◌, ◌-◌, ◌^◌, ◌<◌, ◌≤◌}
use Rattle.std.proofs.Common.{true, false, if◌then◌else◌, refl, ap, subst, ◌∙◌, arith}
use Rattle.std.proofs.Common.{ℤ, pos, negsuc, ◌+ℤ◌, unsigned_abs}
use Rattle.std.proofs.Common.{None, Some, List, [], ◌∷◌, ◌++◌, length, take, drop}
use Rattle.std.specs.Fmt.{signed_decimal}
use Rattle.std.specs.Option.{option_map, option_and_then}
use Rattle.std.proofs.lemmas.List.{length-append}
use Rattle.std.proofs.Math.Seq.{take-append_seam, drop-append_seam}
use Rattle.std.specs.Ordering.{int_eq}
use Rattle.std.proofs.lemmas.Bool.{cond-true, and_from}
use Rattle.std.proofs.lemmas.Int.{ints}
use Rattle.std.proofs.lemmas.Fmt.{decimal_nonempty}
use Rattle.jiff_core.proofs.SignedLemmas.{signed_arith}
use Rattle.vtimezone_reader.specs.ContentLines.{is_word}
use Rattle.recurrence.specs.Weekdays.{weekday_name}
use Rattle.vtimezone_reader.specs.RuleWords.{number_in, is_next, days_after, days_among, days_in, weekday_in, nth_in, day_with, day_in}
use Rattle.vtimezone.specs.Values.{seven_numbers}
use Rattle.vtimezone_reader.proofs.ValuesBack.{number_back, weekday_back}
use Rattle.vtimezone.proofs.lemmas.NumbersBack.{after_each, are_uncut, cut_each, cut_last, next_texts, no_more, seven_are, signed_uncut, texts_after, uncut, uncut-append}

-- ---- lists of numbers and of weekdays

-- a number of so many digits at most
pub record IsShort (places : ℕ) (z : ℤ) : Type 0 where
  pub some : 0 < places
  pub low : 1 ≤ unsigned_abs z
  pub short : unsigned_abs z < 10 ^ places
  pub small : unsigned_abs z ≤ 1000

pub short_back : (places : ℕ) (z : ℤ) → IsShort places z → number_in places (signed_decimal z) ≡ Some z
short_back places z h =
    let low = h.low in
    let small = h.small in
    number_back places z h.some h.low h.short (omega arith)

pub one_number_back : (places : ℕ) (z : ℤ) → IsShort places z → days_in places (signed_decimal z) ≡ Some (record { first = z; seven = false })
unfolding days_in days_after
one_number_back places z h =
    ap (days_among places) (cut_last 44 (signed_decimal z) (signed_uncut 44 z (inl refl) h.small))
    ∙ ap (option_and_then (λ first. days_after places first 1 [])) (short_back places z h)

-- seven numbers in a row, each short
abbrev pub AreShort : ℕ → ℤ → Type 0
AreShort places z = (k : ℕ) → k ≤ 6 → IsShort places (z +ℤ pos k)

texts_uncut : (z : ℤ) (k n : ℕ) (places : ℕ) → AreShort places z → k + n ≤ 7 → are_uncut 44 (texts_after z k n) ≡ true
texts_uncut z k zero places h le = refl
texts_uncut z k (suc n) places h le =
    and_from (uncut 44 (signed_decimal (z +ℤ pos k))) (are_uncut 44 (texts_after z (suc k) n))
    (signed_uncut 44 (z +ℤ pos k) (inl refl) ((h k (omega arith)).small)) (texts_uncut z (suc k) n places h (omega arith))

is_kth : (z : ℤ) (k : ℕ) → int_eq (z +ℤ pos k) (z +ℤ pos k) ≡ true
is_kth z k = grind (arith, ints)

texts_read : (z : ℤ) (k n : ℕ) (places : ℕ) → AreShort places z → k + n ≡ 7
    → days_after places z k (texts_after z k n) ≡ Some (record { first = z; seven = true })
unfolding days_after
texts_read z k zero places h e = let seven : k ≡ 7 = omega arith in rw seven refl
texts_read z k (suc n) places h e =
    let read = short_back places (z +ℤ pos k) (h k (omega arith)) in
    let next : k + 1 ≡ suc k = omega arith in
    ap (λ o. if is_next z k o then days_after places z (k + 1) (texts_after z (suc k) n) else None) read
    ∙ cond-true (int_eq (z +ℤ pos k) (z +ℤ pos k)) (days_after places z (k + 1) (texts_after z (suc k) n)) None (is_kth z k)
    ∙ ap (λ j. days_after places z j (texts_after z (suc k) n)) next
    ∙ texts_read z (suc k) n places h (omega arith)

pub seven_back : (z : ℤ) (places : ℕ) → AreShort places z → days_in places (seven_numbers z) ≡ Some (record { first = z; seven = true })
unfolding days_in
seven_back z places h =
    let P : ℤ → Type 0 = λ n. IsShort places n in
    let first : IsShort places z = subst P (no_more z) (h 0 (omega arith)) in
    let cut = cut_each 44 (signed_decimal z) (next_texts z) (signed_uncut 44 z (inl refl) first.small) (texts_uncut z 1 6 places h (omega arith)) in
    ap (days_in places) (seven_are z)
    ∙ ap (days_among places) cut
    ∙ ap (option_and_then (λ n. days_after places n 1 (next_texts z))) (short_back places z first)
    ∙ texts_read z 1 6 places h refl

after_uncut : (z : ℤ) (k n : ℕ) (places : ℕ) → AreShort places z → k + n ≤ 7 → uncut 59 (after_each 44 (texts_after z k n)) ≡ true
after_uncut z k zero places h le = refl
after_uncut z k (suc n) places h le =
    uncut-append 59 (44 ∷ signed_decimal (z +ℤ pos k)) (after_each 44 (texts_after z (suc k) n))
    (signed_uncut 59 (z +ℤ pos k) (inr (inr refl)) ((h k (omega arith)).small)) (after_uncut z (suc k) n places h (omega arith))

pub seven_uncut : (z : ℤ) (places : ℕ) → AreShort places z → uncut 59 (seven_numbers z) ≡ true
seven_uncut z places h =
    let P : ℤ → Type 0 = λ n. IsShort places n in
    let first : IsShort places z = subst P (no_more z) (h 0 (omega arith)) in
    ap (uncut 59) (seven_are z)
    ∙ uncut-append 59 (signed_decimal z) (after_each 44 (next_texts z)) (signed_uncut 59 z (inr (inr refl)) first.small)
    (after_uncut z 1 6 places h (omega arith))

weekday_length : (w : ℕ) → w ≤ 6 → length (weekday_name w) ≡ 2
unfolding weekday_name
weekday_length zero h = refl
weekday_length (suc zero) h = refl
weekday_length (suc (suc zero)) h = refl
weekday_length (suc (suc (suc zero))) h = refl
weekday_length (suc (suc (suc (suc zero)))) h = refl
weekday_length (suc (suc (suc (suc (suc zero))))) h = refl
weekday_length (suc (suc (suc (suc (suc (suc zero)))))) h = refl
weekday_length (suc (suc (suc (suc (suc (suc (suc w))))))) h = absurd (omega arith)

pub weekday_alone : (w : ℕ) → w ≤ 6 → day_in (weekday_name w) ≡ Some (record { nth = None; weekday = w })
unfolding day_in weekday_in weekday_name is_word
weekday_alone zero h = refl
weekday_alone (suc zero) h = refl
weekday_alone (suc (suc zero)) h = refl
weekday_alone (suc (suc (suc zero))) h = refl
weekday_alone (suc (suc (suc (suc zero)))) h = refl
weekday_alone (suc (suc (suc (suc (suc zero))))) h = refl
weekday_alone (suc (suc (suc (suc (suc (suc zero)))))) h = refl
weekday_alone (suc (suc (suc (suc (suc (suc (suc w))))))) h = absurd (omega arith)

nth_back : (t : List ℕ) (z : ℤ) → 0 < length t → number_in 2 t ≡ Some z → nth_in t ≡ Some (Some z)
nth_back [] z some e = absurd (omega arith)
nth_back (b ∷ bs) z some e = ap (option_map Some) e

signed_nonempty : (z : ℤ) → IsShort 2 z → 0 < length (signed_decimal z)
signed_nonempty (pos n) h = let small = h.small in decimal_nonempty n (omega (arith, signed_arith))
signed_nonempty (negsuc n) h = omega arith

pub nth_weekday : (z : ℤ) (w : ℕ) → IsShort 2 z → w ≤ 6 → day_in (signed_decimal z ++ weekday_name w) ≡ Some (record { nth = Some z; weekday = w })
unfolding day_in
nth_weekday z w h le =
    let a = signed_decimal z in
    let b = weekday_name w in
    let two = weekday_length w le in
    let long : length (a ++ b) - 2 ≡ length a = omega (arith, length-append a b) in
    let front : take (length (a ++ b) - 2) (a ++ b) ≡ a = ap (λ n. take n (a ++ b)) long ∙ take-append_seam a b in
    let back : drop (length (a ++ b) - 2) (a ++ b) ≡ b = ap (λ n. drop n (a ++ b)) long ∙ drop-append_seam a b in
    ap (λ t. day_with (nth_in t) (weekday_in (drop (length (a ++ b) - 2) (a ++ b)))) front
    ∙ ap (λ t. day_with (nth_in a) (weekday_in t)) back
    ∙ ap (λ o. day_with o (weekday_in b)) (nth_back a z (signed_nonempty z h) (short_back 2 z h))
    ∙ ap (day_with (Some (Some z))) (weekday_back w le)
