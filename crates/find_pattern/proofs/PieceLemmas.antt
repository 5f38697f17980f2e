-- Reading a pattern piece by piece.
use Rattle.std.proofs.Common.{◌≡◌, ◌<◌, ◌≤◌, ℕ, ◌+◌, ◌-◌, true, false, List, [], ◌∷◌, ◌++◌, length, take, drop, Result, Ok, Err, refl, sym, ap, ◌∙◌}
use Rattle.std.proofs.Common.{append_assoc, arith}
use Rattle.std.proofs.lemmas.List.{append-nil, drop_all, drop-drop, take_rest, length-drop}
use Rattle.find_pattern.specs.declared.pattern_type.Pattern.{Pattern}
use Rattle.find_pattern.specs.declared.pattern_fault.BadPattern.{BadPattern}
use Rattle.find_pattern.specs.declared.pattern_fault.BadPattern.TheVariants as bad
use Rattle.find_pattern.specs.declared.reading.Piece.{Piece}
use Rattle.find_pattern.specs.declared.reading.Piece.TheVariants as piece
use Rattle.find_pattern.specs.Patterns.{literal, with_byte, read_from}
use Rattle.find_pattern.specs.Pieces.{first_piece}

-- what is read where the rest begins with this piece
abbrev by_piece : ℕ → List ℕ → Piece → Result Pattern BadPattern
by_piece at left (piece.Byte b n) = with_byte b (read_from (at + n) (drop n left))
by_piece at left piece.LastStar = Ok (literal [] true)
by_piece at left piece.Fault = Err (bad.BadPattern at)

one_byte : (at b : ℕ) → read_from at (b ∷ []) ≡ by_piece at (b ∷ []) (first_piece (b ∷ []))
unfolding read_from
one_byte at b = grind arith

two_bytes : (at b c : ℕ) (rest : List ℕ) → read_from at (b ∷ c ∷ rest) ≡ by_piece at (b ∷ c ∷ rest) (first_piece (b ∷ c ∷ rest))
unfolding read_from
two_bytes at b c rest = grind arith

reads_piece : (at : ℕ) (left : List ℕ) → 0 < length left → read_from at left ≡ by_piece at left (first_piece left)
reads_piece at [] h = absurd (omega arith)
reads_piece at (b ∷ []) h = one_byte at b
reads_piece at (b ∷ c ∷ rest) h = two_bytes at b c rest

-- what was read before, with what is read of the rest
abbrev pub with_prefix : List ℕ → Result Pattern BadPattern → Result Pattern BadPattern
with_prefix prefix (Ok p) = Ok (record p { text = prefix ++ p.text })
with_prefix prefix (Err fault) = Err fault

pub with_prefix-none : (r : Result Pattern BadPattern) → with_prefix [] r ≡ r
with_prefix-none (Ok p) = refl
with_prefix-none (Err fault) = refl

with_prefix-byte : (prefix : List ℕ) (b : ℕ) (r : Result Pattern BadPattern) → with_prefix prefix (with_byte b r) ≡ with_prefix (prefix ++ b ∷ []) r
with_prefix-byte prefix b (Ok p) = rw append_assoc
with_prefix-byte prefix b (Err fault) = refl

module _ (text prefix : List ℕ) (at : ℕ) (all : Result Pattern BadPattern) (so_far : with_prefix prefix (read_from at (drop at text)) ≡ all)
    (more : 0 < length (drop at text)) where
  by_first : (p : Piece) → p ≡ first_piece (drop at text) → with_prefix prefix (by_piece at (drop at text) p) ≡ all
  by_first p e = ap (λ q. with_prefix prefix (by_piece at (drop at text) q)) e ∙ ap (with_prefix prefix) (sym (reads_piece at (drop at text) more)) ∙ so_far

  pub past_byte : (b n : ℕ) → piece.Byte b n ≡ first_piece (drop at text) → with_prefix (prefix ++ b ∷ []) (read_from (at + n) (drop (at + n) text)) ≡ all
  past_byte b n e =
      ap (λ l. with_prefix (prefix ++ b ∷ []) (read_from (at + n) l)) (sym (drop-drop n at text))
      ∙ sym (with_prefix-byte prefix b (read_from (at + n) (drop n (drop at text)))) ∙ by_first (piece.Byte b n) e

  pub at_last_star : piece.LastStar ≡ first_piece (drop at text) → all ≡ Ok (literal prefix true)
  at_last_star e = sym (by_first piece.LastStar e) ∙ ap (λ t. Ok (literal t true)) (append-nil prefix)

  pub at_fault : piece.Fault ≡ first_piece (drop at text) → all ≡ Err (bad.BadPattern at)
  at_fault e = sym (by_first piece.Fault e)

-- at the end
pub at_end : (text prefix : List ℕ) (at : ℕ) (all : Result Pattern BadPattern) → with_prefix prefix (read_from at (drop at text)) ≡ all
    → length text ≤ at → all ≡ Ok (literal prefix false)
unfolding read_from
at_end text prefix at all so_far end =
    sym so_far ∙ ap (λ l. with_prefix prefix (read_from at l)) (drop_all at text end) ∙ ap (λ t. Ok (literal t false)) (append-nil prefix)

-- the bytes of a piece are within the text
pub inside : (text : List ℕ) (at n : ℕ) → at ≤ length text → n ≤ length (take (length text - at) (drop at text)) → at + n ≤ length text
inside text at n h k = let l : n ≤ length text - at = rw (take_rest, length-drop) at k in omega arith
