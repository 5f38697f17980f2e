-- Reading a pattern. A star at the start lets any text come before, and one at the end any text
-- after; `\*` and `\\` stand for a star and a backslash.
use Rattle.std.specs.Prelude.{ℕ, ◌+◌, List, [], ◌∷◌, Bool, true, false, ◌||◌, ◌==◌, if◌then◌else◌}
use Rattle.std.specs.Prelude.{Result, Ok, Err}
use Rattle.find_pattern.specs.Marks.{star, backslash}
use Rattle.find_pattern.specs.declared.pattern_type.Pattern.{Pattern}
use Rattle.find_pattern.specs.declared.pattern_fault.BadPattern.{BadPattern}
use Rattle.find_pattern.specs.declared.pattern_fault.BadPattern.TheVariants as bad

abbrev pub is_star : ℕ → Bool
is_star b = b == star

abbrev pub is_backslash : ℕ → Bool
is_backslash b = b == backslash

-- a byte that needs a backslash to stand for itself
abbrev pub is_special : ℕ → Bool
is_special b = is_star b || is_backslash b

abbrev pub literal : List ℕ → Bool → Pattern
literal text trail = record { lead = false; trail = trail; text = text }

-- the byte before the text of what is read
abbrev pub with_byte : ℕ → Result Pattern BadPattern → Result Pattern BadPattern
with_byte b (Ok p) = Ok (record p { text = b ∷ p.text })
with_byte b (Err fault) = Err fault

-- what is read from a place on, where a star can only be the last
unfoldable pub read_from : ℕ → List ℕ → Result Pattern BadPattern
read_from at [] = Ok (literal [] false)
read_from at (b ∷ []) =
    if is_star b then Ok (literal [] true)
    else if is_backslash b then Err (bad.BadPattern at)
    else Ok (literal (b ∷ []) false)
read_from at (b ∷ c ∷ rest) =
    if is_star b then Err (bad.BadPattern at)
    else if is_backslash b
    then (if is_special c then with_byte c (read_from (at + 2) rest) else Err (bad.BadPattern at))
    else with_byte b (read_from (at + 1) (c ∷ rest))

abbrev pub with_lead : Result Pattern BadPattern → Result Pattern BadPattern
with_lead (Ok p) = Ok (record p { lead = true })
with_lead (Err fault) = Err fault

-- what a text is read as; a single star is first and last
unfoldable pub pattern : List ℕ → Result Pattern BadPattern
pattern [] = read_from 0 []
pattern (b ∷ []) = if is_star b then with_lead (Ok (literal [] true)) else read_from 0 (b ∷ [])
pattern (b ∷ c ∷ rest) =
    if is_star b then with_lead (read_from 1 (c ∷ rest)) else read_from 0 (b ∷ c ∷ rest)
