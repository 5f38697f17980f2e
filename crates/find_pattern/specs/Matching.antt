-- When a name matches a pattern. Texts are compared with letters of ASCII in either case, and `_`
-- for a space.
use Rattle.std.specs.Prelude.{ℕ, ◌-◌, List, [], ◌∷◌, length, take, drop, map, Bool, true, false}
use Rattle.std.specs.Prelude.{◌==◌, if◌then◌else◌, bytes_eq}
use Rattle.std.specs.List.{list_any}
use Rattle.std.specs.Char.{to_ascii_lowercase}
use Rattle.find_pattern.specs.Marks.{space, underscore}
use Rattle.find_pattern.specs.declared.pattern_type.Pattern.{Pattern}

abbrev pub fold_byte : ℕ → ℕ
fold_byte b = if b == underscore then space else to_ascii_lowercase b

-- the texts are equal, as they are compared
unfoldable pub is_same : List ℕ → List ℕ → Bool
is_same text other = bytes_eq (map fold_byte text) (map fold_byte other)

abbrev pub starts_as : List ℕ → List ℕ → Bool
starts_as text name = is_same text (take (length text) name)

abbrev pub ends : List ℕ → List ℕ → Bool
ends text name = is_same text (drop (length name - length text) name)

-- the name, and what is left of it after each of its bytes
unfoldable pub suffixes : List ℕ → List (List ℕ)
suffixes [] = [] ∷ []
suffixes (b ∷ bs) = (b ∷ bs) ∷ suffixes bs

abbrev pub contains : List ℕ → List ℕ → Bool
contains text name = list_any (starts_as text) (suffixes name)

abbrev pub matches_as : Bool → Bool → List ℕ → List ℕ → Bool
matches_as false false text name = is_same text name
matches_as true false text name = ends text name
matches_as false true text name = starts_as text name
matches_as true true text name = contains text name

-- a name matches a pattern
unfoldable pub matches : Pattern → List ℕ → Bool
matches pattern name = matches_as pattern.lead pattern.trail pattern.text name
