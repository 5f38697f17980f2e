-- Rising order by a number.
use Rattle.std.specs.Prelude.{ℕ, List, [], ◌∷◌, nat_lt, if◌then◌else◌}

-- the item put after those whose numbers are below its own
abbrev pub put_by_number : {X : Type 0} → (X → ℕ) → X → List X → List X
put_by_number number x [] = x ∷ []
put_by_number number x (y ∷ ys) =
    if nat_lt (number y) (number x) then y ∷ put_by_number number x ys else x ∷ y ∷ ys

-- the items in rising order of their numbers, where those of one number keep their order
abbrev pub rising_by_number : {X : Type 0} → (X → ℕ) → List X → List X
rising_by_number number [] = []
rising_by_number number (x ∷ xs) = put_by_number number x (rising_by_number number xs)
