-- Which requests are expected to take long, by their request lines (RFC 9112, section 3).
use Rattle.std.specs.Prelude.{ℕ, List, [], ◌∷◌, count_by, Bool, false, ◌&&◌, ◌==◌, nat_lt, codes}
use Rattle.std.specs.Prelude.{if◌then◌else◌}
use Rattle.std.specs.List.{list_any}
use Rattle.td_base.specs.TargetForm.{begins_any_case}
use Rattle.td_base.specs.Texts.{pieces}
use Rattle.stretches.specs.declared.costs.TheConstants.{MOST_QUICK_SLASHES}

-- how often a text has this byte
abbrev pub count : ℕ → List ℕ → ℕ
count byte text = count_by (λ b. b == byte) text

abbrev pub has : ℕ → List ℕ → Bool
has byte text = nat_lt 0 (count byte text)

-- a path has more slashes than that of a quick request
abbrev pub is_long : List ℕ → Bool
is_long path = nat_lt MOST_QUICK_SLASHES (count 47 path)

-- a range begins and ends in one century
abbrev pub is_quick_range : List ℕ → List ℕ → Bool
is_quick_range start end =
    begins_any_case (codes "start=20") start && begins_any_case (codes "end=20") end

-- the parameters of a query, between ampersands: those of such a range, and no others
abbrev pub is_quick_pair : List (List ℕ) → Bool
is_quick_pair (start ∷ end ∷ []) = is_quick_range start end
is_quick_pair (start ∷ end ∷ other ∷ parameters) = false
is_quick_pair (start ∷ []) = false
is_quick_pair [] = false

abbrev pub is_quick : List ℕ → Bool
is_quick query = is_quick_pair (pieces 38 query)

-- what follows the path of a target, between question marks: one query
abbrev pub is_quick_parts : List (List ℕ) → Bool
is_quick_parts (query ∷ []) = is_quick query
is_quick_parts (query ∷ other ∷ parts) = false
is_quick_parts [] = false

-- a path, and what follows it
abbrev pub is_costly_parts : List (List ℕ) → Bool
is_costly_parts (path ∷ parts) = if is_quick_parts parts then false else is_long path
is_costly_parts [] = false

abbrev pub is_costly_target : List ℕ → Bool
is_costly_target target = is_costly_parts (pieces 63 target)

-- the words of a request line after its method
abbrev pub is_costly_rest : List (List ℕ) → Bool
is_costly_rest (target ∷ words) = is_costly_target target
is_costly_rest [] = false

-- the words of a line; a field line has a colon in its first one
abbrev pub is_costly_words : List (List ℕ) → Bool
is_costly_words (method ∷ words) = if has 58 method then false else is_costly_rest words
is_costly_words [] = false

abbrev pub is_costly_line : List ℕ → Bool
is_costly_line line = is_costly_words (pieces 32 line)

-- a line of the bytes requests something costly
unfoldable pub is_costly : List ℕ → Bool
is_costly bytes = list_any is_costly_line (pieces 10 bytes)
