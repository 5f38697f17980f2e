-- How often a byte occurs, by the pieces between its places, and what lines with more pieces
-- request.
use Rattle.std.proofs.Common.{◌≡◌, ℕ, ◌+◌, ◌==◌, List, [], ◌∷◌, length, Option, Some, None, false, refl, sym, ap, ◌∙◌, arith}
use Rattle.std.proofs.lemmas.List.Splits.{length-slice_split}
use Rattle.td_base.specs.Texts.{pieces}
use Rattle.stretches.specs.Costs.{count, is_quick_pair, is_quick_parts}

pieces_count : (byte : ℕ) (text : List ℕ) → length (pieces byte text) ≡ count byte text + 1
unfolding pieces
pieces_count byte text = length-slice_split (λ b. b == byte) text

-- one more than in what follows the first
pub count_after : (byte : ℕ) (text front rest : List ℕ) → pieces byte text ≡ front ∷ pieces byte rest → count byte text ≡ count byte rest + 1
count_after byte text front rest e = omega (arith, sym (pieces_count byte text) ∙ ap length e, pieces_count byte rest)

-- none, if nothing follows
pub count_none : (byte : ℕ) (text front : List ℕ) → pieces byte text ≡ front ∷ [] → count byte text ≡ 0
count_none byte text front e = omega (arith, sym (pieces_count byte text) ∙ ap length e)

-- a third piece
third : (start end : List ℕ) (l : List (List ℕ)) (n : ℕ) → length l ≡ n + 1 → is_quick_pair (start ∷ end ∷ l) ≡ false
third start end [] n e = absurd (omega (arith, e))
third start end (other ∷ l) n e = refl

pub three : (start end rest more : List ℕ) → pieces 38 rest ≡ end ∷ pieces 38 more → is_quick_pair (start ∷ pieces 38 rest) ≡ false
three start end rest more e =
    ap (λ l. is_quick_pair (start ∷ l)) e ∙ third start end (pieces 38 more) (count 38 more) (pieces_count 38 more)

second : (query : List ℕ) (l : List (List ℕ)) (n : ℕ) → length l ≡ n + 1 → is_quick_parts (query ∷ l) ≡ false
second query [] n e = absurd (omega (arith, e))
second query (other ∷ l) n e = refl

pub two : (query rest more : List ℕ) → pieces 63 rest ≡ query ∷ pieces 63 more → is_quick_parts (pieces 63 rest) ≡ false
two query rest more e =
    ap is_quick_parts e ∙ second query (pieces 63 more) (count 63 more) (pieces_count 63 more)
