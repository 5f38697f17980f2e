-- The entity tags of a zone's data (RFC 9110, section 8.8.3), with their quotes: the tag of its
-- content, the mark of the format, and the bounds, where one is given.
use Rattle.std.specs.Prelude.{ℕ, List, [], ◌++◌, codes}
use Rattle.td_civil.specs.Calendar.{text_of}
use Rattle.actions.specs.declared.bounds.Bound.{Bound}
use Rattle.actions.specs.declared.bounds.Bound.TheVariants.{Open, At}
use Rattle.actions.specs.declared.bounds.Bounds.{Bounds}

-- the text of a bound: a dash where it is open
abbrev pub bound_text : Bound → List ℕ
bound_text Open = codes "-"
bound_text (At m) = text_of m.seconds

unfoldable pub after_point : Bound → List ℕ
after_point bound = codes "." ++ bound_text bound

abbrev pub bounds_text : Bound → Bound → List ℕ
bounds_text Open Open = []
bounds_text Open (At m) = after_point Open ++ after_point (At m)
bounds_text (At m) end = after_point (At m) ++ after_point end

-- of the content with this tag, in the format with this mark
unfoldable pub data_tag : List ℕ → List ℕ → Bounds → List ℕ
data_tag tag mark bounds =
    codes "\"" ++ tag ++ codes "." ++ mark ++ bounds_text bounds.start bounds.end ++ codes "\""
