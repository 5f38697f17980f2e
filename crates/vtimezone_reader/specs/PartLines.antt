-- The lines of a part of a time zone (RFC 5545, section 3.6.5): STANDARD or DAYLIGHT.
use Rattle.std.specs.Prelude.{ℕ, nat_le, List, [], ◌++◌, length, codes, Bool, ◌&&◌, ℤ, ◌+ℤ◌}
use Rattle.std.specs.Prelude.{Option, None, Some, Result, Ok, Err, if◌then◌else◌}
use Rattle.std.specs.List.{list_all}
use Rattle.std.specs.Option.{option_map, option_and_then}
use Rattle.td_base.specs.FirstFault.{◌>>=◌}
use Rattle.td_civil.specs.declared.moment_type.Moment.{Moment}
use Rattle.recurrence.specs.declared.part_types.Part.{Part}
use Rattle.recurrence.specs.declared.rule_types.Rule.{Rule}
use Rattle.recurrence.specs.RuleOfDate.{second_in_day}
use Rattle.vtimezone.specs.Cutting.{cut_at}
use Rattle.vtimezone.specs.ReadValues.{offset_in}
use Rattle.vtimezone_reader.specs.declared.calendar_fault.LineFault.{LineFault}
use Rattle.vtimezone_reader.specs.declared.calendar_fault.LineFault.TheVariants as fault
use Rattle.vtimezone_reader.specs.declared.part_lines.OpenPart.{OpenPart}
use Rattle.vtimezone_reader.specs.declared.rule_words.Recur.{Recur}
use Rattle.vtimezone_reader.specs.ContentLines.{is_word}
use Rattle.vtimezone_reader.specs.RuleWords.{recur_in}
use Rattle.vtimezone_reader.specs.TimeTexts.{moment_by, moments_by}

-- what a value gives, where there was none before: Count for a second one, and this fault for a
-- value that is not of its form
abbrev pub set_once : {A : Type 0} → Option A → LineFault → Option A → Result A LineFault
set_once (Some before) bad value = Err fault.Count
set_once None bad None = Err bad
set_once None bad (Some value) = Ok value

-- at most 32 visible bytes of ASCII
abbrev pub is_visible : ℕ → Bool
is_visible b = nat_le 33 b && nat_le b 126

abbrev pub name_in : List ℕ → Option (List ℕ)
name_in text = if nat_le (length text) 32 && list_all is_visible text then Some text else None

-- the first name counts
abbrev pub name_with : Option (List ℕ) → List ℕ → Option (List ℕ)
name_with (Some name) value = Some name
name_with None value = name_in value

-- a part of which no line is read
abbrev pub begun_part : Bool → OpenPart
begun_part dst = record {
  dst = dst;
  start = None;
  from = None;
  to = None;
  name = None;
  recur = None;
  dates = [];
}

-- one more line of a part: its rule, its dates, its name, or any other
unfoldable pub more_line : OpenPart → List ℕ → List ℕ → Result OpenPart LineFault
more_line p name value =
    if is_word name (codes "RRULE")
    then (set_once p.recur fault.Rule (recur_in value) >>= λ v. Ok (record p { recur = Some v }))
    else if is_word name (codes "RDATE")
    then Ok (record p { dates = p.dates ++ cut_at 44 value })
    else if is_word name (codes "TZNAME") then Ok (record p { name = name_with p.name value })
    else Ok p

-- one more line of a part
unfoldable pub part_line : OpenPart → List ℕ → List ℕ → Result OpenPart LineFault
part_line p name value =
    if is_word name (codes "DTSTART")
    then (set_once p.start fault.Value (Some value) >>= λ v. Ok (record p { start = Some v }))
    else if is_word name (codes "TZOFFSETFROM")
    then (set_once p.from fault.Value (offset_in value) >>= λ v. Ok (record p { from = Some v }))
    else if is_word name (codes "TZOFFSETTO")
    then (set_once p.to fault.Value (offset_in value) >>= λ v. Ok (record p { to = Some v }))
    else more_line p name value

-- a rule has the time of day of the start, by the clocks before it
abbrev pub rule_at : ℤ → Recur → Rule
rule_at shown r = record { form = r.form; second = second_in_day shown }

abbrev pub name_or_none : Option (List ℕ) → List ℕ
name_or_none None = []
name_or_none (Some name) = name

abbrev pub made : OpenPart → ℤ → ℤ → Moment → List Moment → Part
made p from to start dates = record {
  dst = p.dst;
  start = start;
  from = from;
  to = to;
  name = name_or_none p.name;
  rule = option_map (rule_at (start.seconds +ℤ from)) p.recur;
  until = option_and_then (λ r. r.until) p.recur;
  dates = dates;
}

-- the part of these values; its start and its dates must be moments that have a meaning
abbrev pub part_with : OpenPart → ℤ → ℤ → Option Moment → Option (List Moment)
    → Result Part LineFault
part_with p from to (Some start) (Some dates) = Ok (made p from to start dates)
part_with p from to start dates = Err fault.Value

-- a start and both offsets must be there
abbrev pub part_if : OpenPart → Option (List ℕ) → Option ℤ → Option ℤ → Result Part LineFault
part_if p (Some start) (Some from) (Some to) =
    part_with p from to (moment_by from start) (moments_by from p.dates)
part_if p start from to = Err fault.Count

unfoldable pub part_of : OpenPart → Result Part LineFault
part_of p = part_if p p.start p.from p.to
