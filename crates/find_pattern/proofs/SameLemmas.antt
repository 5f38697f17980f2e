-- Comparing two texts byte by byte.
use Rattle.std.proofs.Common.{◌≡◌, ◌≢◌, ℕ, suc, Bool, true, false, ◌&&◌, ◌==◌, nat_eq, List, [], ◌∷◌, length, refl, ap, arith}
use Rattle.std.specs.List.{list_all, zip}
use Rattle.find_pattern.specs.Matching.{fold_byte, is_same, starts_as, contains, suffixes}

and-false : (b : Bool) → (b && false) ≡ false
and-false true = refl
and-false false = refl

-- texts of two lengths
pub lengths_differ : (xs ys : List ℕ) → length xs ≢ length ys → is_same xs ys ≡ false
unfolding is_same
lengths_differ [] [] h = absurd (h refl)
lengths_differ [] (y ∷ ys) h = refl
lengths_differ (x ∷ xs) [] h = refl
lengths_differ (x ∷ xs) (y ∷ ys) h =
    rw (lengths_differ xs ys (λ e. h (ap (λ n. suc n) e))) (and-false (nat_eq (fold_byte x) (fold_byte y)))

-- texts of one length, byte by byte
abbrev pub folds_alike : (ℕ × ℕ) → Bool
folds_alike pair = fold_byte pair.0 == fold_byte pair.1

pub same_pairs : (xs ys : List ℕ) → length xs ≡ length ys → list_all folds_alike (zip xs ys) ≡ is_same xs ys
unfolding is_same
same_pairs [] [] e = refl
same_pairs [] (y ∷ ys) e = absurd (omega arith)
same_pairs (x ∷ xs) [] e = absurd (omega arith)
same_pairs (x ∷ xs) (y ∷ ys) e =
    let shorter : length xs ≡ length ys = omega arith in
    ap (λ b. folds_alike (x, y) && b) (same_pairs xs ys shorter)

-- the text that begins here stands in the rest
pub begins_here : (text left : List ℕ) → true ≡ starts_as text left → true ≡ contains text left
unfolding suffixes
begins_here text [] e = rw (← e)
begins_here text (b ∷ left) e = rw (← e)
