-- The parts of a VTIMEZONE (RFC 5545, section 3.6.5): those of the changes before a year, alike
-- ones in one part, and from that year on the rules of a footer.
use Rattle.std.specs.Prelude.{ℕ, zero, suc, List, [], ◌∷◌, ◌++◌, if◌then◌else◌, ℤ, pos, ◌+ℤ◌}
use Rattle.std.specs.Prelude.{◌-ℤ◌, ◌*ℤ◌, int_lt, unsigned_abs, Option, None, Some}
use Rattle.jiff_core.specs.Calendar.{days_from_civil}
use Rattle.td_civil.specs.declared.moment_type.Moment.{Moment}
use Rattle.td_civil.specs.declared.local_time.Local.{Local}
use Rattle.posix_footer.specs.declared.rule_types.Edge.{Edge}
use Rattle.posix_footer.specs.declared.rule_types.Edge.TheVariants as edge
use Rattle.posix_footer.specs.declared.rule_types.Date.{Date}
use Rattle.posix_footer.specs.declared.rule_types.DstRule.{DstRule}
use Rattle.posix_footer.specs.declared.rule_types.Footer.{Footer}
use Rattle.posix_footer.specs.Carried.{is_all_year}
use Rattle.posix_footer.specs.Onset.{onset_of}
use Rattle.posix_footer.specs.StateAt.{state_after}
use Rattle.zone_meaning.specs.Observed.{observed}
use Rattle.recurrence.specs.declared.part_types.Part.{Part}
use Rattle.recurrence.specs.RuleOfDate.{rule_of}
use Rattle.vtimezone.specs.Grouping.{grouped}

-- the moment at which a year begins in UTC
abbrev pub year_begin : ℤ → ℤ
year_begin year = days_from_civil year 1 1 *ℤ pos 86400

-- the offset before a change of each year, and its date
abbrev pub offset_before : Local → DstRule → Edge → ℤ
offset_before std rule edge.Start = std.offset
offset_before std rule edge.End = rule.dst.offset

abbrev pub date_of_edge : DstRule → Edge → Date
date_of_edge rule edge.Start = rule.start
date_of_edge rule edge.End = rule.end

-- the last onset of a change, in the n years from y0 on, that comes before b
unfoldable pub last_before : DstRule → ℤ → Edge → ℤ → ℤ → ℕ → Option Moment
last_before rule std at y0 b zero = None
last_before rule std at y0 b (suc n) =
    let onset = onset_of rule std (y0 +ℤ pos n) at in
    if int_lt onset b then Some (record { seconds = onset }) else last_before rule std at y0 b n

-- the part of a change of each year, from the year y0 on, up to a last onset where there is one
unfoldable pub rule_part : Local → DstRule → ℤ → Edge → Option Moment → Part
rule_part std rule y0 at until = record {
  dst = (state_after std rule at).dst;
  start = record { seconds = onset_of rule std.offset y0 at };
  from = offset_before std rule at;
  to = (state_after std rule at).offset;
  name = (state_after std rule at).name;
  rule = Some (rule_of (date_of_edge rule at));
  until = until;
  dates = [];
}

abbrev pub part_until : Local → DstRule → ℤ → Edge → Option Moment → List Part
part_until std rule y0 at None = []
part_until std rule y0 at (Some last) = rule_part std rule y0 at (Some last) ∷ []

-- with an end it goes up to its last onset before the end, of the years up to 9998, and is left out
-- where it has none
abbrev pub rule_part_if : Local → DstRule → ℤ → Option ℤ → Edge → List Part
rule_part_if std rule y0 None at = rule_part std rule y0 at None ∷ []
rule_part_if std rule y0 (Some b) at =
    part_until std rule y0 at (last_before rule std.offset at y0 b (unsigned_abs (pos 9999 -ℤ y0)))

-- the parts of both changes, by their first onsets
unfoldable pub rule_parts : Local → DstRule → ℤ → Option ℤ → List Part
rule_parts std rule y0 b =
    if int_lt (onset_of rule std.offset y0 edge.Start) (onset_of rule std.offset y0 edge.End)
    then rule_part_if std rule y0 b edge.Start ++ rule_part_if std rule y0 b edge.End
    else rule_part_if std rule y0 b edge.End ++ rule_part_if std rule y0 b edge.Start

-- the rules of a footer from a year on, where the state changes each year and the year has a
-- meaning
abbrev pub rules_if_any : Local → Option DstRule → ℤ → Option ℤ → List Part
rules_if_any std None y0 b = []
rules_if_any std (Some rule) y0 b =
    if is_all_year std.offset rule then []
    else if int_lt y0 (pos 9999) then rule_parts std rule y0 b else []

abbrev pub rules_of : Option Footer → ℤ → Option ℤ → List Part
rules_of None y0 b = []
rules_of (Some footer) y0 b = rules_if_any footer.std footer.dst y0 b

-- where the parts of the changes end: at the turn of a year, or at the end of the range where that
-- comes first
abbrev pub changes_end : ℤ → Option ℤ → ℤ
changes_end turn None = turn
changes_end turn (Some b) = if int_lt b turn then b else turn

-- the parts for a range from a to b: those of the changes before the year y0, and rules from that
-- year on
unfoldable pub parts_from : (ℤ → Local) → Option Footer → ℤ → Option ℤ → ℤ → List Part
parts_from state footer a b y0 =
    grouped (observed state a (changes_end (year_begin y0) b)) ++ rules_of footer y0 b
