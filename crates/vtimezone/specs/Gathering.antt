-- The parts of changes, as one more change joins them.
use Rattle.std.specs.Prelude.{ℕ, ◌+◌, List, [], ◌∷◌, ◌++◌, Bool, ◌&&◌, if◌then◌else◌, Option, None}
use Rattle.std.specs.Prelude.{Some}
use Rattle.std.specs.Ordering.{int_eq}
use Rattle.td_civil.specs.SameLocal.{same_local}
use Rattle.td_civil.specs.declared.moment_type.Moment.{Moment}
use Rattle.td_civil.specs.declared.local_time.Observance.{Observance}
use Rattle.zone_meaning.specs.RangeLaws.{state_told}
use Rattle.recurrence.specs.declared.part_types.Part.{Part}
use Rattle.recurrence.specs.InForce.{state_of_part}

-- the part is of changes that are alike this one
unfoldable pub is_of : Part → Observance → Bool
is_of p o = int_eq p.from o.from && same_local (state_of_part p) (state_told o)

-- where the first part stands that is of changes alike this one, if there is one, counted on from a
-- number
abbrev pub place_from : ℕ → List Part → Observance → Option ℕ
place_from at [] o = None
place_from at (p ∷ ps) o = if is_of p o then Some at else place_from (at + 1) ps o

-- the part of one change
unfoldable pub part_alone : Observance → Part
part_alone o = record {
  dst = o.dst;
  start = o.onset;
  from = o.from;
  to = o.to;
  name = o.name;
  rule = None;
  until = None;
  dates = [];
}

-- the same with one more date
unfoldable pub with_date : Part → Moment → Part
with_date p m = record {
  dst = p.dst;
  start = p.start;
  from = p.from;
  to = p.to;
  name = p.name;
  rule = p.rule;
  until = p.until;
  dates = p.dates ++ m ∷ [];
}

-- the change joins the first part that is of changes alike it, or else is a part of its own
unfoldable pub parts_joined : List Part → Observance → List Part
parts_joined [] o = part_alone o ∷ []
parts_joined (p ∷ ps) o = if is_of p o then with_date p o.onset ∷ ps else p ∷ parts_joined ps o
