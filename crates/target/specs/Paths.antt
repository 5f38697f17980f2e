-- The path and the query of a request target (RFC 9112, section 3.2; RFC 3986, section 3).
use Rattle.std.specs.Prelude.{ℕ, List, [], ◌∷◌, drop, Bool, ◌==◌, ◌||◌, if◌then◌else◌, Option, Some}
use Rattle.std.specs.Prelude.{None, option_map, option_and_then, codes}
use Rattle.std.specs.List.{slice_split, position_or_len, before_first, after_first}
use Rattle.std.specs.Str.{is_utf8}
use Rattle.percent_encoding.specs.Percent.{percent_decode}
use Rattle.td_base.specs.TargetForm.{begins_any_case}
use Rattle.target.specs.Marks.{slash, question_mark}

abbrev pub is_slash : ℕ → Bool
is_slash b = b == slash

abbrev pub is_question_mark : ℕ → Bool
is_question_mark b = b == question_mark

abbrev pub ends_authority : ℕ → Bool
ends_authority b = is_slash b || is_question_mark b

-- what follows an authority, which ends before the first slash or question mark
abbrev pub after_authority : List ℕ → List ℕ
after_authority text = drop (position_or_len ends_authority text) text

-- path and query: all of the origin form, and of the absolute form what follows the authority; no
-- other form has any
unfoldable pub path_and_query : List ℕ → List ℕ
path_and_query target =
    if begins_any_case (codes "/") target then target
    else if begins_any_case (codes "http://") target then after_authority (drop 7 target)
    else if begins_any_case (codes "https://") target then after_authority (drop 8 target)
    else []

-- the path ends at the first question mark
abbrev pub path_of : List ℕ → List ℕ
path_of target = before_first is_question_mark (path_and_query target)

abbrev pub query_of : List ℕ → List ℕ
query_of target = after_first is_question_mark (path_and_query target)

-- the segments after the slash at the start; those of an empty path are those of `/`
abbrev pub raw_segments : List ℕ → List (List ℕ)
raw_segments path = slice_split is_slash (drop 1 path)

-- what a segment stands for, if that is UTF-8
unfoldable pub decode_segment : List ℕ → Option (List ℕ)
decode_segment segment =
    if is_utf8 (percent_decode segment) then Some (percent_decode segment) else None

-- what each segment stands for, if all are UTF-8
unfoldable pub decode_segments : List (List ℕ) → Option (List (List ℕ))
decode_segments [] = Some []
decode_segments (segment ∷ segments) =
    option_and_then (λ text. option_map (λ texts. text ∷ texts) (decode_segments segments))
    (decode_segment segment)
