-- A footer, as it is laid out and as it is cut.
use Rattle.std.proofs.Common.{◌≡◌, ◌≢◌, ℕ, ◌+◌, ◌≤◌, Bool, true, false, cond, eqb, List, [], ◌∷◌, ◌++◌, length, All, drop, Option, Some, None, refl, ap, ◌∙◌}
use Rattle.std.proofs.Common.{arith}
use Rattle.std.specs.Prelude.{nat_lt}
use Rattle.std.specs.Option.{unwrap_or}
use Rattle.std.proofs.lemmas.Bool.{ltb-false, le-ltb, eqb-true}
use Rattle.std.proofs.lemmas.List.{nil_from_length, length-append, length-drop}
use Rattle.tzif_reader.specs.declared.tzif_fault.TzifFault.TheVariants.{Trailing}
use Rattle.tzif_reader.specs.Cut.{before, text_between, footer_of, footer_place}
use Rattle.tzif_reader.specs.Faults.{ending_fault, footer_fault}
use Rattle.tzif_reader.proofs.Headers.{when_none, none_when}
use Rattle.tzif_reader.proofs.Records.{before_marks, marks_before}

record Between (rest text : List ℕ) : Type 0 where
  after : List ℕ
  whole : rest ≡ 10 ∷ (text ++ 10 ∷ after)
  clear : All (λ b. b ≢ 10) text

between_case : (b : ℕ) (bs text : List ℕ) (same : Bool) → eqb b 10 ≡ same → cond same (before 10 bs) None ≡ Some text → Between (b ∷ bs) text
between_case b bs text true eq h =
    let m = before_marks 10 bs text h in
    record { after = m.after; whole = ap (λ (n : ℕ). n ∷ bs) (eqb-true b 10 eq) ∙ ap (λ (r : List ℕ). 10 ∷ r) m.whole; clear = m.clear }
between_case b bs text false eq h = absurd cc

between : (rest text : List ℕ) → text_between rest ≡ Some text → Between rest text
between [] text h = absurd cc
between (b ∷ bs) text h = between_case b bs text (eqb b 10) refl h

ending_none : (size place : ℕ) (o : Option (List ℕ)) → ending_fault size place o ≡ None → (o ≡ Some (unwrap_or o []))
    × (size ≤ place + length (unwrap_or o []) + 2)
ending_none size place None h = absurd cc
ending_none size place (Some text) h = (refl, ltb-false _ _ (when_none (nat_lt (place + length text + 2) size) (Trailing (place + length text + 2)) h))

-- what stands from the footer on
pub record EndsIn (bytes footer : List ℕ) : Type 0 where
  pub whole : drop (footer_place bytes) bytes ≡ 10 ∷ (footer ++ 10 ∷ [])
  pub clear : All (λ b. b ≢ 10) footer

pub footer_none : (bytes : List ℕ) → footer_fault bytes ≡ None → EndsIn bytes (unwrap_or (footer_of bytes) [])
unfolding footer_fault footer_of
footer_none bytes h =
    let e = ending_none (length bytes) (footer_place bytes) (footer_of bytes) h in
    let b = between (drop (footer_place bytes) bytes) (unwrap_or (footer_of bytes) []) e.0 in
    let none : b.after ≡ [] = nil_from_length b.after
    (omega (arith, ap length b.whole, length-drop (footer_place bytes) bytes, length-append (unwrap_or (footer_of bytes) []) (10 ∷ b.after), e.1)) in
    record { whole = b.whole ∙ ap (λ (r : List ℕ). 10 ∷ (unwrap_or (footer_of bytes) [] ++ 10 ∷ r)) none; clear = b.clear }

pub found_footer : (bytes footer : List ℕ) → EndsIn bytes footer → footer_of bytes ≡ Some footer
unfolding footer_of
found_footer bytes footer ends = ap text_between ends.whole ∙ marks_before 10 (footer ++ 10 ∷ []) footer [] refl ends.clear

pub none_footer : (bytes footer : List ℕ) → EndsIn bytes footer → footer_fault bytes ≡ None
unfolding footer_fault
none_footer bytes footer ends =
    let room : length bytes ≤ footer_place bytes + length footer + 2 =
    omega (arith, ap length ends.whole, length-drop (footer_place bytes) bytes, length-append footer (10 ∷ [])) in
    ap (ending_fault (length bytes) (footer_place bytes)) (found_footer bytes footer ends)
    ∙ none_when (nat_lt (footer_place bytes + length footer + 2) (length bytes)) (Trailing (footer_place bytes + length footer + 2)) (le-ltb _ _ room)
