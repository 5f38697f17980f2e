-- The pieces of a text, one by one.
use Rattle.std.proofs.Common.{◌≡◌, ◌≢◌, ◌<◌, ◌≤◌, ℕ, zero, suc, arith, Some, None, ◌+◌, ◌-◌, ◌==◌, false, All, List, [], ◌∷◌, ◌++◌, length, take, drop, get_or, sym, ap}
use Rattle.std.proofs.Common.{◌∙◌, subst, take-append-drop}
use Rattle.std.specs.List.{slice_split}
use Rattle.std.proofs.lemmas.Bool.{eq-eqb, eqb-true, ne_eqb}
use Rattle.std.proofs.lemmas.List.{drop_more, take_more, take_rest, take_all}
use Rattle.std.proofs.lemmas.List.Elements.{All-push}
use Rattle.std.proofs.lemmas.List.Splits.{slice_split_at, slice_split_none}
use Rattle.memchr.specs.Find.{IsFirstByte, Nowhere, Passes, is_byte}
use Rattle.td_base.specs.Texts.{pieces}

abbrev is_other : ℕ → ℕ → Type 0
is_other separator b = (b == separator) ≡ false

-- no separator stands before this place
abbrev pub HasNone : ℕ → List ℕ → Type 0
HasNone separator text = All (is_other separator) text

parted : (text : List ℕ) (at : ℕ) → at < length text → take at text ++ get_or text at 0 ∷ drop (at + 1) text ≡ text
parted text at h = ap (λ l. take at text ++ l) (sym (drop_more text at 0 h)) ∙ take-append-drop at text

cut_at : (separator : ℕ) (text : List ℕ) (at : ℕ) → at < length text → HasNone separator (take at text) → get_or text at 0 ≡ separator
    → pieces separator text ≡ take at text ∷ pieces separator (take (length text - (at + 1)) (drop (at + 1) text))
unfolding pieces
cut_at separator text at h before e =
    ap (slice_split (λ b. b == separator)) (sym (parted text at h))
    ∙ (slice_split_at (λ b. b == separator) (take at text) (get_or text at 0) (drop (at + 1) text) before (eq-eqb (get_or text at 0) separator e)
    ∙ ap (λ l. take at text ∷ slice_split (λ b. b == separator) l) (sym (take_rest text (at + 1))))

-- no byte was passed over that is a separator
passed : (separator : ℕ) (text : List ℕ) (at : ℕ) → at ≤ length text → Nowhere (Passes (is_byte separator) text) 0 at
    → HasNone separator (take at text)
passed separator text zero h none = λ k d below. absurd (omega (arith, below))
passed separator text (suc at) h none =
    let before : HasNone separator (take at text) = passed separator text at (omega (arith, h)) (λ k low below. none k low (omega (arith, below))) in
    let other : get_or text at 0 ≢ separator = λ e. none at (omega arith) (omega arith) (eq-eqb _ separator e) in
    let one_more : at + 1 ≡ suc at = omega arith in
    subst (λ n. HasNone separator (take n text)) one_more
    (subst (All (is_other separator)) (sym (take_more text at 0 (omega (arith, h))))
    (All-push (is_other separator) (take at text) (get_or text at 0) before (ne_eqb (get_or text at 0) separator other)))

pub cut_first : (separator : ℕ) (text : List ℕ) (at : ℕ) → IsFirstByte (is_byte separator) text (Some at)
    → pieces separator text ≡ take at text ∷ pieces separator (take (length text - (at + 1)) (drop (at + 1) text))
cut_first separator text at first =
    cut_at separator text at first.0.high (passed separator text at (omega (arith, first.0.high)) first.0.before) (eqb-true _ separator first.1)

pub cut_none : (separator : ℕ) (text : List ℕ) → IsFirstByte (is_byte separator) text None → pieces separator text ≡ text ∷ []
unfolding pieces
cut_none separator text none =
    slice_split_none (λ b. b == separator) text
    (subst (All (is_other separator)) (take_all (length text) text (omega arith)) (passed separator text (length text) (omega arith) none))
