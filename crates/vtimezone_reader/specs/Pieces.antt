-- Texts between separators.
use Rattle.std.specs.Prelude.{ℕ, suc, ◌==◌, List, [], ◌∷◌, if◌then◌else◌, Option, None, Some}
use Rattle.vtimezone.specs.Cutting.{cut_at}

-- the texts between separators, of a text, if there is one
abbrev pub pieces : ℕ → Option (List ℕ) → List (List ℕ)
pieces separator None = []
pieces separator (Some text) = cut_at separator text

-- what stands before the first separator, and what stands after it, if there is one
abbrev pub before : ℕ → List ℕ → List ℕ
before separator [] = []
before separator (b ∷ bs) = if b == separator then [] else b ∷ before separator bs

abbrev pub after : ℕ → List ℕ → Option (List ℕ)
after separator [] = None
after separator (b ∷ bs) = if b == separator then Some bs else after separator bs

abbrev pub length_before : ℕ → List ℕ → ℕ
length_before separator [] = 0
length_before separator (b ∷ bs) =
    if b == separator then 0 else suc (length_before separator bs)
