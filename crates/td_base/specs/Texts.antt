-- Texts of a head's fields: blanks at their ends, and the pieces of a list (RFC 9110, section 5.6).
use Rattle.std.specs.Prelude.{ℕ, ◌+◌, List, [], ◌∷◌, length, reverse, Bool, ◌||◌, ◌==◌, cond}
use Rattle.std.specs.Prelude.{if◌then◌else◌, Option, Some, None}
use Rattle.std.specs.List.{slice_split}
use Rattle.std.specs.Str.{str_eq_ignore_ascii_case}

-- a space or a tab
abbrev pub is_blank : ℕ → Bool
is_blank b = b == 32 || b == 9

abbrev pub skip_blanks : List ℕ → List ℕ
skip_blanks [] = []
skip_blanks (b ∷ bs) = if is_blank b then skip_blanks bs else b ∷ bs

-- the text without blanks at its ends
unfoldable pub trim : List ℕ → List ℕ
trim text = reverse (skip_blanks (reverse (skip_blanks text)))

-- the pieces of a text between these bytes
unfoldable pub pieces : ℕ → List ℕ → List (List ℕ)
pieces separator text = slice_split (λ b. b == separator) text

-- those of what is left of a text
abbrev pub pieces_left : ℕ → Option (List ℕ) → List (List ℕ)
pieces_left separator None = []
pieces_left separator (Some text) = pieces separator text

-- how much of a text is left, for a loop over its pieces
abbrev pub left_of : Option (List ℕ) → ℕ
left_of None = 0
left_of (Some text) = length text + 1

-- the values of the fields with this name, whatever the case of its letters, of fields that are
-- pairs of a name and a value
abbrev pub field_values : List ℕ → List (List ℕ × List ℕ) → List (List ℕ)
field_values name [] = []
field_values name (pair ∷ pairs) =
    cond (str_eq_ignore_ascii_case pair.0 name) (pair.1 ∷ field_values name pairs)
    (field_values name pairs)
