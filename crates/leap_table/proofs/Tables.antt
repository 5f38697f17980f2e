-- The steps of a table, line after line.
use Rattle.std.specs.Prelude.{find}
use Rattle.std.specs.List.{range_with_len, flat_map}
use Rattle.std.proofs.Common.{◌≡◌, ℕ, suc, ◌+◌, ◌-◌, ◌<◌, ◌≤◌, Bool, true, false, not, ◌&&◌, ◌||◌, List, [], ◌∷◌, ◌++◌, length, ℤ, pos, None, Some, refl, sym}
use Rattle.std.proofs.Common.{ap, ◌∙◌, arith, append_assoc, append-nil}
use Rattle.td_base.proofs.lemmas.LeastLemmas.{least_step, least_found, least_none}
use Rattle.td_base.specs.FirstFault.{least}
use Rattle.catalogue.specs.declared.release.LeapStep.{LeapStep}
use Rattle.tzif_reader.specs.LeapSteps.{line_before, is_step, is_expiry, is_midnight, is_no_line, cause_of, step_of, leap_fault, leap_steps}
use Rattle.tzif_reader.specs.declared.zone_file.LeapLine.{LeapLine}
use Rattle.leap_table.specs.Faults.{table_cause, table_fault}
use Rattle.leap_table.specs.Steps.{HasRisen, step_pairs}
use Rattle.leap_table.specs.declared.leap_fault.LeapFault.{LeapFault}
use Rattle.leap_table.proofs.Rising.{has_risen, none_risen}

-- the steps of the lines from one on
abbrev pub steps_from : List LeapLine → ℕ → List (ℤ × ℤ)
steps_from lines i = flat_map (step_of lines) (range_with_len i (length lines - i))

-- lines before this one are a table's, with these steps
pub record IsSoFar (lines : List LeapLine) (steps : List LeapStep) (i : ℕ) : Type 0 where
  pub steps_are : step_pairs steps ++ steps_from lines i ≡ leap_steps lines
  pub none : find (is_no_line lines) (range_with_len i (length lines - i)) ≡ least (length lines) (is_no_line lines)
  pub risen : HasRisen (line_before lines i) i

-- a line of a table is a step
fits_step : (step expiry midnight : Bool) → (not step || (not expiry && not midnight)) ≡ false → step ≡ true
fits_step true expiry midnight h = refl
fits_step false expiry midnight h = absurd cc

pub step_of_line : (lines : List LeapLine) (i : ℕ) → is_no_line lines i ≡ false → is_step lines i ≡ true
unfolding is_no_line
step_of_line lines i h = fits_step (is_step lines i) (is_expiry lines i) (is_midnight lines i) h

-- before the first line
pub start_so_far : (lines : List LeapLine) (steps : List LeapStep) → step_pairs steps ≡ (pos 730, pos 10) ∷ [] → IsSoFar lines steps 0
unfolding leap_steps
start_so_far lines steps is =
    let all : length lines - 0 ≡ length lines = omega arith in
    record { steps_are = rw (is, all) refl; none = rw all refl; risen = none_risen lines }

range_more : (i n : ℕ) → i < n → range_with_len i (n - i) ≡ i ∷ range_with_len (i + 1) (n - (i + 1))
range_more i n lt = let k : n - i ≡ suc (n - (i + 1)) = omega arith in rw k refl

steps_more : (lines : List LeapLine) (i : ℕ) → i < length lines → steps_from lines i ≡ step_of lines i ++ steps_from lines (i + 1)
steps_more lines i lt = ap (flat_map (step_of lines)) (range_more i (length lines) lt)

-- one line more
pub more_so_far : (lines : List LeapLine) (steps more : List LeapStep) (i : ℕ) → i < length lines → IsSoFar lines steps i
    → step_pairs more ≡ step_pairs steps ++ step_of lines i → is_no_line lines i ≡ false → IsSoFar lines more (i + 1)
more_so_far lines steps more i lt so_far added fits = record {
  steps_are = ap (λ (xs : List (ℤ × ℤ)). xs ++ steps_from lines (i + 1)) added
      ∙ append_assoc (step_pairs steps) (step_of lines i) (steps_from lines (i + 1))
      ∙ ap (λ (xs : List (ℤ × ℤ)). step_pairs steps ++ xs) (sym (steps_more lines i lt))
      ∙ so_far.steps_are;
  none = least_step (is_no_line lines) i (length lines) _ lt fits so_far.none;
  risen = has_risen lines i (step_of_line lines i fits) so_far.risen;
}

-- a line that does not fit
pub fault_here : (lines : List LeapLine) (steps : List LeapStep) (i : ℕ) (e : LeapFault) → i < length lines → IsSoFar lines steps i
    → is_no_line lines i ≡ true → e ≡ table_cause (cause_of lines i) → table_fault lines ≡ Some e
unfolding leap_fault
fault_here lines steps i e lt so_far bad is =
    let found : Some i ≡ least (length lines) (is_no_line lines) = least_found (is_no_line lines) i (length lines) _ lt bad so_far.none in
    rw (is, ← found) refl

-- after the last line
pub end_so_far : (lines : List LeapLine) (steps : List LeapStep) (i : ℕ) → length lines ≤ i → IsSoFar lines steps i
    → (step_pairs steps ≡ leap_steps lines) × (table_fault lines ≡ None)
unfolding leap_fault
end_so_far lines steps i le so_far =
    let none : None ≡ least (length lines) (is_no_line lines) = least_none (is_no_line lines) i (length lines) _ le so_far.none in
    let all : length lines - i ≡ 0 = omega arith in
    let rest : steps_from lines i ≡ [] = rw all refl in
    (sym (append-nil (step_pairs steps)) ∙ ap (λ (xs : List (ℤ × ℤ)). step_pairs steps ++ xs) (sym rest) ∙ so_far.steps_are, rw (← none) refl)
