-- Changes of local time that are alike stand in one part (RFC 5545, section 3.8.5.2).
use Rattle.std.specs.Prelude.{List, [], ◌∷◌, map, filter, drop, Bool, not, ◌&&◌, None}
use Rattle.std.specs.Ordering.{int_eq}
use Rattle.td_civil.specs.SameLocal.{same_local}
use Rattle.td_civil.specs.declared.moment_type.Moment.{Moment}
use Rattle.td_civil.specs.declared.local_time.Observance.{Observance}
use Rattle.zone_meaning.specs.RangeLaws.{state_told}
use Rattle.recurrence.specs.declared.part_types.Part.{Part}

-- both offsets, flag and name are the same
abbrev pub is_alike : Observance → Observance → Bool
is_alike o p = int_eq o.from p.from && same_local (state_told o) (state_told p)

-- the first of each set of alike ones, in their order
unfoldable pub first_ones : List Observance → List Observance
first_ones [] = []
first_ones (o ∷ os) = o ∷ filter (λ p. not (is_alike o p)) (first_ones os)

-- the onsets of those that are alike, but the first
abbrev pub dates_among : List Observance → Observance → List Moment
dates_among os o = drop 1 (map (λ p. p.onset) (filter (is_alike o) os))

-- the part of a set of alike ones, by the first of them
abbrev pub part_among : List Observance → Observance → Part
part_among os o = record {
  dst = o.dst;
  start = o.onset;
  from = o.from;
  to = o.to;
  name = o.name;
  rule = None;
  until = None;
  dates = dates_among os o;
}

unfoldable pub grouped : List Observance → List Part
grouped os = map (part_among os) (first_ones os)
