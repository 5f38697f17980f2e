-- How a pattern is written.
use Rattle.std.specs.Prelude.{ℕ, List, [], ◌∷◌, ◌++◌, length, Bool, not, ◌||◌, ◌==◌, if◌then◌else◌}
use Rattle.std.specs.List.{flat_map}
use Rattle.find_pattern.specs.declared.pattern_type.Pattern.{Pattern}
use Rattle.find_pattern.specs.Marks.{star, backslash}
use Rattle.find_pattern.specs.Patterns.{is_special}

-- a star and a backslash with a backslash before them, any other byte as it is
abbrev pub spelled_byte : ℕ → List ℕ
spelled_byte b = if is_special b then backslash ∷ b ∷ [] else b ∷ []

abbrev pub star_if : Bool → List ℕ
star_if mark = if mark then star ∷ [] else []

abbrev pub spelled_as : Bool → Bool → List ℕ → List ℕ
spelled_as lead trail text = star_if lead ++ (flat_map spelled_byte text ++ star_if trail)

-- the text of a pattern
abbrev pub pattern_text : Pattern → List ℕ
pattern_text p = spelled_as p.lead p.trail p.text

-- a star alone sets both marks, so without a text there is no pattern with one of them
abbrev pub is_spelled : Bool → Bool → List ℕ → Bool
is_spelled lead trail text = not (length text == 0) || (if lead then trail else not trail)
