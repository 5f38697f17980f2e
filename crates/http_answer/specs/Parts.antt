-- What the functions that append a part of a reply promise.
use Rattle.std.specs.Prelude.{◌≡◌, ℕ, List, ◌++◌, length, take, flat_map, codes}
use Rattle.http_answer.specs.Replies.{ended}

-- the lines with their ends
abbrev pub parts_text : List (List ℕ) → List ℕ
parts_text lines = flat_map ended lines

-- the line of a field, with its end
unfoldable pub field_line : List ℕ → List ℕ → List ℕ
field_line name value = name ++ (value ++ codes "\r\n")

-- what was there at the beginning is there still
unfoldable pub Keeps : List ℕ → List ℕ → Type 0
Keeps old new = take (length old) new ≡ old
