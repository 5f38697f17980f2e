-- What the reader keeps on its way through a text.
use Rattle.std.specs.Prelude.{ℕ, suc, List, [], ◌∷◌, if◌then◌else◌, Option, Some, None}
use Rattle.ical_lines.specs.Unfolding.{is_feed, joined, joined_on}

-- the length of the first line with its line feed, or of all where there is none
abbrev pub line_len : List ℕ → ℕ
line_len [] = 0
line_len (b ∷ bs) = if is_feed b then 1 else suc (line_len bs)

-- the lines to come, after one that may go on, if there is one
abbrev pub joined_with : Option (List ℕ) → List (List ℕ) → List (List ℕ)
joined_with None lines = joined lines
joined_with (Some begun) lines = joined_on begun lines
