-- Where a request head ends, on the whole list (RFC 9112, sections 2.1 and 2.2).
-- A line is a run of bytes up to and with a line feed. It is empty if it is a line feed alone, or a
-- carriage return and a line feed.
use Rattle.std.specs.Prelude.{ℕ, ◌+◌, List, [], ◌∷◌, ◌++◌, take, length, Bool, true, false, not}
use Rattle.std.specs.Prelude.{◌&&◌, ◌||◌, ◌==◌, nat_le, if◌then◌else◌, Option, Some, None}
use Rattle.std.specs.Prelude.{option_and_then}
use Rattle.http_request.specs.declared.limits.TheConstants.{MOST_HEAD_BYTES, MOST_FEEDS}

-- what stands before the line feed of an empty line
abbrev pub is_blank_line : List ℕ → Bool
is_blank_line [] = true
is_blank_line (b ∷ []) = b == 13
is_blank_line (b ∷ c ∷ bs) = false

-- the lines that are whole, without their line feeds; `line` is what has come of the first
unfoldable pub head_lines_from : List ℕ → List ℕ → List (List ℕ)
head_lines_from line [] = []
head_lines_from line (b ∷ bs) =
    if b == 10 then line ∷ head_lines_from [] bs else head_lines_from (line ++ b ∷ []) bs

-- How many bytes there are up to and with the first empty line that comes after a line that is
-- not empty. `at` bytes stand before these lines; `begun` says whether a line that is not empty
-- is among them.
unfoldable pub end_among : Bool → ℕ → List (List ℕ) → Option ℕ
end_among begun at [] = None
end_among begun at (line ∷ lines) =
    if begun && is_blank_line line then Some (at + length line + 1)
    else end_among (begun || not (is_blank_line line)) (at + length line + 1) lines

abbrev pub end_of_head : List ℕ → Option ℕ
end_of_head bytes = end_among false 0 (head_lines_from [] bytes)

-- how many line feeds there are
abbrev pub feeds : List ℕ → ℕ
feeds [] = 0
feeds (b ∷ bs) = (if b == 10 then 1 else 0) + feeds bs

-- a prefix of this length is within the limits
abbrev pub fits : List ℕ → ℕ → Bool
fits bytes n = nat_le n MOST_HEAD_BYTES && nat_le (feeds (take n bytes)) MOST_FEEDS

-- the length of the prefix that is read as one head: it ends with that empty line and is within the
-- limits
abbrev pub window : List ℕ → Option ℕ
window bytes = option_and_then (λ n. if fits bytes n then Some n else None) (end_of_head bytes)

-- without a window, no bytes that follow can make one
abbrev pub is_full : List ℕ → Bool
is_full bytes = nat_le MOST_HEAD_BYTES (length bytes) || nat_le MOST_FEEDS (feeds bytes)
