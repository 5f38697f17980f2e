-- The texts that name things in a release: identifiers of time zones, files, publishers and
-- versions.
use Rattle.std.specs.Prelude.{ℕ, List, [], ◌∷◌, length, Bool, IsTrue, false, not, ◌&&◌, ◌||◌, ◌==◌}
use Rattle.std.specs.Prelude.{nat_le, if◌then◌else◌, ◌≡◌, Option, None, Some}
use Rattle.std.specs.List.{list_all, list_any}
use Rattle.std.specs.Str.{bytes_eq}
use Rattle.td_base.specs.declared.name_forms.TheConstants.{MOST_FILE_NAME_BYTES}
use Rattle.td_base.specs.declared.name_forms.TheConstants.{MOST_IDENTIFIER_BYTES, MOST_LABEL_BYTES}
use Rattle.td_base.specs.declared.name_forms.TheConstants.{MOST_PATH_BYTES}

-- the byte before the first piece
abbrev pub with_first : ℕ → List (List ℕ) → List (List ℕ)
with_first b [] = (b ∷ []) ∷ []
with_first b (piece ∷ pieces) = (b ∷ piece) ∷ pieces

-- the pieces of a text between its slashes, of which there is always one more than of slashes
unfoldable pub segments : List ℕ → List (List ℕ)
segments [] = [] ∷ []
segments (b ∷ bs) = if b == 47 then [] ∷ segments bs else with_first b (segments bs)

-- a letter, a digit, or one of `_`, `+`, `-` and `.`
abbrev pub is_name_byte : ℕ → Bool
is_name_byte b =
    (nat_le 65 b && nat_le b 90) || (nat_le 97 b && nat_le b 122) || (nat_le 48 b && nat_le b 57)
    || (b == 95) || (b == 43) || (b == 45) || (b == 46)

-- a segment has a byte, and none that names may not have
abbrev pub is_segment : List ℕ → Bool
is_segment s = nat_le 1 (length s) && list_all is_name_byte s

-- at most so many bytes, in segments with single slashes between them
unfoldable pub is_path : ℕ → List ℕ → Bool
is_path most text = nat_le (length text) most && list_all is_segment (segments text)

-- the identifier of a time zone, or an alias of one
abbrev pub is_identifier : List ℕ → Bool
is_identifier text = is_path MOST_IDENTIFIER_BYTES text

-- a segment that stands for a folder itself or for the one above it
abbrev pub is_dots : List ℕ → Bool
is_dots s = bytes_eq s (46 ∷ []) || bytes_eq s (46 ∷ 46 ∷ [])

-- the name of a file of a release
unfoldable pub is_file_name : List ℕ → Bool
is_file_name text = is_path MOST_FILE_NAME_BYTES text && not (list_any is_dots (segments text))

-- a printable ASCII byte
abbrev pub is_printable : ℕ → Bool
is_printable b = nat_le 32 b && nat_le b 126

-- each byte is a printable ASCII byte
abbrev pub IsPlain : List ℕ → Type 0
IsPlain text = IsTrue (list_all is_printable text)

-- the name of a publisher or of a version: 1 to so many printable bytes
unfoldable pub is_label : List ℕ → Bool
is_label text =
    nat_le 1 (length text) && nat_le (length text) MOST_LABEL_BYTES && list_all is_printable text

-- the path of a file or folder where words or lines name one: 1 to 1,024 bytes that do not begin
-- with a dash
abbrev pub is_path_word : List ℕ → Bool
is_path_word [] = false
is_path_word (b ∷ bs) = not (b == 45) && nat_le (length (b ∷ bs)) MOST_PATH_BYTES

-- ---- a text cut at its first slash

-- the segments of a text that may be missing
abbrev pub segments_left : Option (List ℕ) → List (List ℕ)
segments_left None = []
segments_left (Some text) = segments text

-- the text is the segment, and after a slash what is left, if there is one
abbrev pub IsSegmentCut : List ℕ → List ℕ → Option (List ℕ) → Type 0
IsSegmentCut text segment left = segments text ≡ segment ∷ segments_left left
