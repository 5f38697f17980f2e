-- What is found in the fields of a head.
use Rattle.std.specs.Prelude.{ℕ, List, [], ◌∷◌, Option, None, Some}

-- the first of the values, if there is one
abbrev pub first_of : List (List ℕ) → Option (List ℕ)
first_of [] = None
first_of (value ∷ values) = Some value
