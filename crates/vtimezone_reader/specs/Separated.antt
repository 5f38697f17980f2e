-- A local time with the separators of a moment's text.
use Rattle.std.specs.Prelude.{ℕ, ◌+◌, List, [], ◌∷◌, ◌++◌, slice_index}

abbrev pub two_from : List ℕ → ℕ → List ℕ
two_from text i = slice_index text i ∷ slice_index text (i + 1) ∷ []

-- YYYYMMDDTHHMMSS as YYYY-MM-DDTHH:MM:SSZ
abbrev pub separated : List ℕ → List ℕ
separated text =
    two_from text 0 ++ two_from text 2 ++ (45 ∷ two_from text 4) ++ (45 ∷ two_from text 6)
    ++ (slice_index text 8 ∷ two_from text 9) ++ (58 ∷ two_from text 11)
    ++ (58 ∷ two_from text 13) ++ (90 ∷ [])
