-- The two forms of a request target that name a resource (RFC 9112, sections 3.2.1 and 3.2.2).
use Rattle.std.specs.Prelude.{ℕ, List, length, take, Bool, ◌||◌, codes}
use Rattle.std.specs.Str.{str_eq_ignore_ascii_case}

-- the text begins with that prefix, letters in any case
abbrev pub begins_any_case : List ℕ → List ℕ → Bool
begins_any_case prefix text = str_eq_ignore_ascii_case (take (length prefix) text) prefix

-- origin form, which begins with a slash, or absolute form, which begins with the scheme http or
-- https
unfoldable pub has_form : List ℕ → Bool
has_form target =
    begins_any_case (codes "/") target
    || (begins_any_case (codes "http://") target || begins_any_case (codes "https://") target)
