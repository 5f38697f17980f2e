-- The place of the first byte that passes a test.
use Rattle.std.proofs.Common.{◌≡◌, ◌≤◌, ℕ, Bool, true, false, List, length, ltb, cond, Some, None, refl, arith}
use Rattle.std.specs.Option.{unwrap_or}
use Rattle.std.specs.List.{position, position_or_len}
use Rattle.std.proofs.lemmas.Bool.{ltb-false}
use Rattle.std.proofs.lemmas.List.Sums.{prefix_len-le-length}

-- the place, or the end where there is none
place_by : (t : Bool) (at len : ℕ) → ltb at len ≡ t → at ≤ len → unwrap_or (cond t (Some at) None) len ≡ at
place_by true at len e h = omega arith
place_by false at len e h = let le : len ≤ at = ltb-false at len e in omega arith

pub place_or_end : (p : ℕ → Bool) (xs : List ℕ) → unwrap_or (position p xs) (length xs) ≡ position_or_len p xs
place_or_end p xs =
    place_by (ltb (position_or_len p xs) (length xs)) (position_or_len p xs) (length xs) refl (prefix_len-le-length _ xs)
