-- What the loop over fields of one name keeps.
use Rattle.std.specs.Prelude.{ℕ, List, [], ◌∷◌, ◌++◌, Option, Some, None, codes}

-- one more value at the end of those joined
abbrev pub joined_value : Option (List ℕ) → List ℕ → List ℕ
joined_value None value = value
joined_value (Some text) value = text ++ (codes ", " ++ value)

-- the values joined so far, with those to come
abbrev pub values_joined_on : Option (List ℕ) → List (List ℕ) → Option (List ℕ)
values_joined_on all [] = all
values_joined_on all (v ∷ vs) = values_joined_on (Some (joined_value all v)) vs
