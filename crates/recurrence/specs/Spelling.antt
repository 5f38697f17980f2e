-- What the text of a calendar spells: a time zone for a range.
use Rattle.std.specs.Prelude.{ℕ, List, ◌∷◌, Option, None, Some}
use Rattle.td_civil.specs.declared.moment_type.Moment.{Moment}
use Rattle.recurrence.specs.declared.part_types.Part.{Part}

-- its identifier, the zone of which that is an alias, the end of the range, and its parts
pub record Spelling : Type 0 where
  pub tzid : List ℕ
  pub alias_of : Option (List ℕ)
  pub until : Option Moment
  pub parts : List Part

-- a zone has one part or more
abbrev pub spelling_with : Option (List ℕ) → Option (Option (List ℕ)) → Option (Option Moment)
    → Option (List Part) → Option Spelling
spelling_with (Some tzid) (Some alias_of) (Some until) (Some (p ∷ ps)) = Some (record {
  tzid = tzid;
  alias_of = alias_of;
  until = until;
  parts = p ∷ ps;
})
spelling_with tzid alias_of until parts = None
