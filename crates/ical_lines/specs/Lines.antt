-- Content lines, folded (RFC 5545, section 3.1).
use Rattle.std.specs.Prelude.{ℕ, ◌-◌, List, [], ◌∷◌, ◌++◌, ◌==◌, if◌then◌else◌}
use Rattle.std.specs.List.{flat_map}

-- how many octets stand in a line at most, without its end
abbrev pub most_octets : ℕ
most_octets = 75

-- the octets of a line that has room for so many more: before one for which there is none, the line
-- ends, and the next begins with a space
unfoldable pub folded : ℕ → List ℕ → List ℕ
folded room [] = []
folded room (b ∷ bs) =
    if room == 0 then 13 ∷ 10 ∷ 32 ∷ b ∷ folded (most_octets - 2) bs else b ∷ folded (room - 1) bs

-- a line as it is written
unfoldable pub content_line : List ℕ → List ℕ
content_line line = folded most_octets line ++ 13 ∷ 10 ∷ []

-- lines as they are written
abbrev pub lines_written : List (List ℕ) → List ℕ
lines_written lines = flat_map content_line lines
