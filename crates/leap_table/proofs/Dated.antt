-- The days of a table's steps begin at moments that have a meaning, and dates are plain.
use Rattle.std.specs.Int.{int_div_euclid}
use Rattle.std.specs.List.{AllByRecursion, range_with_len, flat_map}
use Rattle.std.proofs.Common.{◌≡◌, ℕ, zero, suc, ◌+◌, ◌%◌, ◌<◌, Bool, true, false, List, [], ◌∷◌, ◌++◌, length, ℤ, pos, negsuc, ◌+ℤ◌, ◌*ℤ◌, ◌≤ℤ◌, ◌<ℤ◌, None}
use Rattle.std.proofs.Common.{arith, subst, sym, if◌then◌else◌}
use Rattle.std.proofs.lemmas.Bool.Decides.{nat_tests}
use Rattle.std.proofs.lemmas.Int.{ints}
use Rattle.td_base.specs.Names.{is_printable, IsPlain}
use Rattle.td_base.specs.FirstFault.{least}
use Rattle.td_base.proofs.lemmas.FaultLemmas.{unmapped}
use Rattle.td_base.proofs.lemmas.LeastLemmas.{least_clear}
use Rattle.td_civil.specs.Bounds.{IsWithinBounds}
use Rattle.td_civil.specs.Reading.{is_date_text, date_spelling}
use Rattle.td_civil.proofs.lemmas.DateText.{judged_date}
use Rattle.catalogue.specs.declared.release.LeapStep.{LeapStep}
use Rattle.tzif_reader.specs.LeapSteps.{line_at, line_before, second_of, is_expiry, is_no_line, cause_of, step_of, leap_fault, leap_steps}
use Rattle.tzif_reader.specs.declared.zone_file.LeapLine.{LeapLine}
use Rattle.leap_table.specs.Steps.{HasRisen, step_pairs}
use Rattle.leap_table.proofs.Rising.{has_risen, none_risen, is_second}
use Rattle.leap_table.proofs.Tables.{step_of_line}

-- the day of a second
day_start : (s : ℤ) → pos 0 ≤ℤ s → s <ℤ pos 253370764800 → IsWithinBounds (int_div_euclid s (pos 86400) *ℤ pos 86400)
day_start (pos n) low high = (omega (arith, ints), omega (arith, ints))
day_start (negsuc n) low high = absurd (omega (arith, ints))

abbrev IsDated : ℤ × ℤ → Type 0
IsDated p = IsWithinBounds (p.0 *ℤ pos 86400)

joined : (xs ys : List (ℤ × ℤ)) → AllByRecursion IsDated xs → AllByRecursion IsDated ys → AllByRecursion IsDated (xs ++ ys)
joined [] ys a b = b
joined (x ∷ xs) ys a b = (a.0, joined xs ys a.1 b)

-- the step of a line, where it tells one
one_step : (expiry : Bool) (step : ℤ × ℤ) → IsDated step → AllByRecursion IsDated (if expiry then [] else step ∷ [])
one_step true step h = tt
one_step false step h = (h, tt)

-- the steps of all lines
line_steps : (lines : List LeapLine) (i k : ℕ) → i + k ≡ length lines → ((j : ℕ) → j < length lines → is_no_line lines j ≡ false)
    → HasRisen (line_before lines i) i → AllByRecursion IsDated (flat_map (step_of lines) (range_with_len i k))
line_steps lines i zero all fits risen = tt
line_steps lines i (suc k) all fits risen =
    let step = step_of_line lines i (fits i (omega arith)) in
    let s = is_second lines i step risen in
    joined (step_of lines i) (flat_map (step_of lines) (range_with_len (i + 1) k))
    (one_step (is_expiry lines i) (int_div_euclid (second_of lines i) (pos 86400), pos 10 +ℤ (line_at lines i).correction)
    (day_start (second_of lines i) s.low s.high))
    (line_steps lines (i + 1) k (omega arith) fits (has_risen lines i step risen))

table_steps : (lines : List LeapLine) → leap_fault lines ≡ None → AllByRecursion IsDated (leap_steps lines)
unfolding leap_fault leap_steps
table_steps lines none =
    let clear = unmapped (cause_of lines) (least (length lines) (is_no_line lines)) none in (
      (omega (arith, ints), omega (arith, ints)),
      line_steps lines 0 (length lines) (omega arith) (λ j lt. least_clear (is_no_line lines) j (length lines) lt clear) (none_risen lines),
    )

unpaired : (steps : List LeapStep) → AllByRecursion IsDated (step_pairs steps) → AllByRecursion (λ s. IsWithinBounds (s.day *ℤ pos 86400)) steps
unpaired [] h = tt
unpaired (s ∷ ss) h = (h.0, unpaired ss h.1)

pub dated_steps : (lines : List LeapLine) (steps : List LeapStep) → leap_fault lines ≡ None → step_pairs steps ≡ leap_steps lines
    → AllByRecursion (λ s. IsWithinBounds (s.day *ℤ pos 86400)) steps
dated_steps lines steps none is =
    unpaired steps (subst (λ (xs : List (ℤ × ℤ)). AllByRecursion IsDated xs) (sym is) (table_steps lines none))

-- dates
digit_is_plain : (n : ℕ) → is_printable (48 + n % 10) ≡ true
digit_is_plain n = grind (arith, nat_tests)

spelling_is_plain : (y m d : ℕ) → IsPlain (date_spelling y m d)
spelling_is_plain y m d = simp digit_is_plain

pub date_is_plain : (text : List ℕ) → is_date_text text ≡ true → IsPlain text
date_is_plain text is =
    let date = judged_date text is in
    rw date.text_is (spelling_is_plain date.year date.month date.day)
