-- Where in a list the items stand that pass a test.
use Rattle.std.specs.Prelude.{ℕ, ◌+◌, List, [], ◌∷◌, Bool, if◌then◌else◌}

-- their positions, in rising order, where the first item of the list has this position
abbrev pub positions : {X : Type 0} → (X → Bool) → ℕ → List X → List ℕ
positions p k [] = []
positions p k (x ∷ xs) = if p x then k ∷ positions p (k + 1) xs else positions p (k + 1) xs
