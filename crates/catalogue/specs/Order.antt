-- Rising order by the bytes of texts.
use Rattle.std.specs.Prelude.{ℕ, List, [], ◌∷◌, Bool, true, ◌≡◌, ⊤, if◌then◌else◌}
use Rattle.std.specs.Ordering.{nat_cmp, is_lt}
use Rattle.std.specs.Cmp.Lexicographic.{slice_cmp}
use Rattle.std.specs.List.{AllByRecursion}

-- whether a text stands before another
abbrev pub is_before : List ℕ → List ℕ → Bool
is_before a b = is_lt (slice_cmp nat_cmp a b)

-- the item put after those whose texts stand before its own
abbrev pub put_by : {X : Type 0} → (X → List ℕ) → X → List X → List X
put_by text x [] = x ∷ []
put_by text x (y ∷ ys) = if is_before (text y) (text x) then y ∷ put_by text x ys else x ∷ y ∷ ys

-- the items in rising order of their texts
abbrev pub rising_by : {X : Type 0} → (X → List ℕ) → List X → List X
rising_by text [] = []
rising_by text (x ∷ xs) = put_by text x (rising_by text xs)

-- each text stands before all those after it
abbrev pub IsRising : List (List ℕ) → Type 0
IsRising [] = ⊤
IsRising (x ∷ xs) = AllByRecursion (λ y. is_before x y ≡ true) xs × IsRising xs
