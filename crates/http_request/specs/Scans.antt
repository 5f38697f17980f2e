-- How far a list was searched for the end of its first head.
use Rattle.std.specs.Prelude.{Option, None, ◌≡◌, ℕ, ◌≤◌, List, [], ◌∷◌, ◌++◌, length, take, Bool}
use Rattle.std.specs.Prelude.{true, false, not, ◌&&◌, ◌||◌, ◌+◌, if◌then◌else◌, ◌==◌, Some}
use Rattle.http_request.specs.declared.scan.ScannedLine.{ScannedLine}
use Rattle.http_request.specs.declared.scan.ScannedLine.TheVariants as line
use Rattle.http_request.specs.declared.scan.Scan.{Scan}
use Rattle.http_request.specs.declared.scan.Search.{Search}
use Rattle.http_request.specs.declared.scan.Search.TheVariants as search
use Rattle.http_request.specs.Ends.{is_blank_line, feeds}

-- The same end, byte by byte. `at` bytes stand before these; `begun` says whether a line that is
-- not empty is among them, and `line` is what they have of the line at their end.
unfoldable pub end_from : Bool → List ℕ → ℕ → List ℕ → Option ℕ
end_from begun line at [] = None
end_from begun line at (b ∷ bs) =
    if b == 10
    then (if begun && is_blank_line line then Some (at + 1)
    else end_from (begun || not (is_blank_line line)) [] (at + 1) bs)
    else end_from begun (line ++ b ∷ []) (at + 1) bs

abbrev pub head_end : List ℕ → Option ℕ
head_end bytes = end_from false [] 0 bytes

-- what the search keeps of a line
abbrev pub line_kind : List ℕ → ScannedLine
line_kind [] = line.Nothing
line_kind (b ∷ []) = if b == 13 then line.Return else line.Other
line_kind (b ∷ c ∷ bs) = line.Other

abbrev pub is_other : ScannedLine → Bool
is_other line.Nothing = false
is_other line.Return = false
is_other line.Other = true

abbrev pub line_past : ScannedLine → ℕ → ScannedLine
line_past line.Nothing b = if b == 13 then line.Return else line.Other
line_past line.Return b = line.Other
line_past line.Other b = line.Other

-- the head ends with this byte
abbrev pub ends_with : Scan → ℕ → Bool
ends_with scan b = b == 10 && (scan.begun && not (is_other scan.line))

-- the search after a byte that does not end it
abbrev pub past : Scan → ℕ → Scan
past scan b =
    if b == 10
    then record {
      seen = scan.seen + 1;
      feeds = scan.feeds + 1;
      begun = scan.begun || is_other scan.line;
      line = line.Nothing;
    }
    else record {
      seen = scan.seen + 1;
      feeds = scan.feeds;
      begun = scan.begun;
      line = line_past scan.line b;
    }

-- no head ends in the first `seen` bytes, and the search goes on after them
pub record IsScanned (bytes : List ℕ) (scan : Scan) : Type 0 where
  pub line : List ℕ
  pub kind : scan.line ≡ line_kind line
  pub within : scan.seen ≤ length bytes
  pub feeds : scan.feeds ≡ feeds (take scan.seen bytes)
  pub goes_on : (next : List ℕ)
      → head_end (take scan.seen bytes ++ next) ≡ end_from scan.begun line scan.seen next

-- the search found the end of the head, or came to the end of the list
abbrev pub Searches : List ℕ → Search → Type 0
Searches bytes (search.End n count) =
    (head_end bytes ≡ Some n) × (count ≡ feeds (take n bytes)) × (n ≤ length bytes)
Searches bytes (search.Open scan) = IsScanned bytes scan × (scan.seen ≡ length bytes)
