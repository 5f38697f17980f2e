-- Members of a list that is begun by one more.
use Rattle.std.proofs.Common.{◌≡◌, ◌⊎◌, ℕ, zero, suc, ◌<◌, inl, inr, List, [], ◌∷◌, length, get_or, refl, arith}
use Rattle.std.specs.List.{Contains}

pub member_first : {X : Type 0} (x : X) (xs : List X) → Contains (x ∷ xs) x
member_first x xs = (0, omega arith, refl)

pub member_later : {X : Type 0} (x y : X) (xs : List X) → Contains xs y → Contains (x ∷ xs) y
member_later x y xs h = (suc h.0, omega (arith, h.1), h.2)

member_at : {X : Type 0} (x y : X) (xs : List X) (k : ℕ) → k < length (x ∷ xs) → get_or (x ∷ xs) k y ≡ y → (x ≡ y) ⊎ Contains xs y
member_at x y xs zero lt is = inl is
member_at x y xs (suc k) lt is = inr (k, omega arith, is)

pub member_cases : {X : Type 0} (x y : X) (xs : List X) → Contains (x ∷ xs) y → (x ≡ y) ⊎ Contains xs y
member_cases x y xs h = member_at x y xs h.0 h.1 h.2

pub no_member : {X : Type 0} (y : X) → Contains {X = X} [] y → ⊥
no_member y h = let lt = h.1 in omega arith
