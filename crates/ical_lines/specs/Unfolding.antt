-- Reading content lines (RFC 5545, section 3.1).
use Rattle.std.specs.Prelude.{ℕ, ◌+◌, ◌-◌, List, [], ◌∷◌, ◌++◌, length, take, drop, map, Bool}
use Rattle.std.specs.Prelude.{false, not, ◌||◌, ◌&&◌, ◌==◌, if◌then◌else◌, Option, Some, None}
use Rattle.std.specs.Prelude.{Result, Ok, Err, bytes_eq}
use Rattle.std.specs.List.{list_all, onto_first}
use Rattle.ical_lines.specs.declared.line_fault.BadLine.{BadLine}
use Rattle.ical_lines.specs.declared.line_fault.BadLine.TheVariants as bad

abbrev pub is_feed : ℕ → Bool
is_feed b = b == 10

-- the text, cut after each line feed
unfoldable pub cut_lines : List ℕ → List (List ℕ)
cut_lines [] = []
cut_lines (b ∷ bs) = if is_feed b then (b ∷ []) ∷ cut_lines bs else onto_first b (cut_lines bs)

-- the line ends with CRLF
unfoldable pub is_whole : List ℕ → Bool
is_whole line = bytes_eq (drop (length line - 2) line) (13 ∷ 10 ∷ [])

-- the line without its end
abbrev pub content : List ℕ → List ℕ
content line = take (length line - 2) line

-- where the first line begins that does not end with CRLF, of lines that begin at this place
unfoldable pub first_bad : ℕ → List (List ℕ) → Option ℕ
first_bad at [] = None
first_bad at (line ∷ lines) = if is_whole line then first_bad (at + length line) lines else Some at

-- a space or a tab
abbrev pub is_fold_blank : ℕ → Bool
is_fold_blank b = b == 32 || b == 9

abbrev pub begins_blank : List ℕ → Bool
begins_blank [] = false
begins_blank (b ∷ bs) = is_fold_blank b

-- a line that begins with a blank goes on with the one before it, of which this is read
unfoldable pub joined_on : List ℕ → List (List ℕ) → List (List ℕ)
joined_on begun [] = begun ∷ []
joined_on begun (line ∷ lines) =
    if begins_blank line
    then joined_on (begun ++ drop 1 line) lines
    else begun ∷ joined_on line lines

abbrev pub joined : List (List ℕ) → List (List ℕ)
joined [] = []
joined (line ∷ lines) = joined_on line lines

abbrev pub read_as : Option ℕ → List (List ℕ) → Result (List (List ℕ)) BadLine
read_as None lines = Ok lines
read_as (Some place) lines = Err (bad.BadLine place)

-- the lines of a text, or the place of the first that does not end with CRLF
unfoldable pub unfolded : List ℕ → Result (List (List ℕ)) BadLine
unfolded text = read_as (first_bad 0 (cut_lines text)) (joined (map content (cut_lines text)))

-- a line that is read back as it was written: it has no line feed and begins with no blank
abbrev pub is_plain : List ℕ → Bool
is_plain line = list_all (λ b. not (is_feed b)) line && not (begins_blank line)
