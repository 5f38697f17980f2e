-- The parts of a zone file for a range.
use Rattle.std.specs.Prelude.{ℕ, ◌-◌, List, [], ◌∷◌, length, ℤ, pos, ◌+ℤ◌, slice_index_or}
use Rattle.std.specs.Int.{int_max}
use Rattle.td_civil.specs.declared.moment_type.Moment.{Moment}
use Rattle.td_civil.specs.Calendar.{stamp_of}
use Rattle.tzif_reader.specs.Cut.{lists_of}
use Rattle.zone_meaning.specs.State.{zone_state, footer_meant}
use Rattle.recurrence.specs.InForce.{GivesState}
use Rattle.recurrence.specs.declared.part_types.Part.{Part}
use Rattle.recurrence.specs.declared.part_types.Range.{Range}
use Rattle.vtimezone.specs.PartsOf.{parts_from}
use Rattle.vtimezone.specs.Ranges.{end_in, IsAmong}

-- the greater of the start and the last transition, or the start where there is none
abbrev pub latest : ℤ → List Moment → ℤ
latest a [] = a
latest a (m ∷ ms) =
    int_max a (slice_index_or (m ∷ ms) (length (m ∷ ms) - 1) (record { seconds = pos 0 })).seconds

-- the first year of the rules: the one after the year of that moment in UTC
unfoldable pub rule_year : List ℕ → ℤ → ℤ
rule_year file a = pos (stamp_of (latest a (lists_of file).moments)).year +ℤ pos 1

unfoldable pub range_parts : List ℕ → Range → List Part
range_parts file range =
    let a = range.from.seconds in
    parts_from (zone_state file) (footer_meant (lists_of file).footer) a (end_in range)
    (rule_year file a)

-- at each moment of a range the part in force gives the state of the zone file
abbrev pub MeansZone : List ℕ → Range → List Part → Type 0
MeansZone file range parts =
    (t : ℤ) → IsAmong range.from.seconds (end_in range) t → GivesState parts t (zone_state file t)
