-- What the text of a calendar spells, read from it (RFC 5545, sections 3.1, 3.4, 3.6.5 and 3.8.3;
-- TZUNTIL and TZID-ALIAS-OF are those of RFC 7808, section 7). The text is lines, each a name, a
-- colon and a value. A component is lines from its BEGIN to its END, first properties and then the
-- components in it: a calendar has one time zone, and that has a part for each of its groups.
-- Names stand in capitals and have no parameters. A text with any other line spells nothing.
use Rattle.std.specs.Prelude.{ℕ, ◌-◌, ◌==◌, List, [], ◌∷◌, ◌++◌, codes, length, take}
use Rattle.std.specs.Prelude.{drop, Bool, true, false, not, ◌&&◌, ◌||◌, if◌then◌else◌, ℤ}
use Rattle.std.specs.Prelude.{Option, None, Some}
use Rattle.std.specs.List.{list_all, flat_map, take_while}
use Rattle.std.specs.Option.{option_map, option_and_then}
use Rattle.std.specs.Result.{result_ok}
use Rattle.std.specs.Str.{bytes_eq}
use Rattle.ical_lines.specs.Unfolding.{unfolded}
use Rattle.recurrence.specs.declared.part_types.Part.{Part}
use Rattle.recurrence.specs.AllRead.{put_before, all_read}
use Rattle.recurrence.specs.PartFields.{part_with_fields}
use Rattle.recurrence.specs.Spelling.{Spelling, spelling_with}
use Rattle.vtimezone.specs.Cutting.{Named, cut_first, values_of, one_read, one_if_any, only_is}
use Rattle.vtimezone.specs.ReadRules.{recur_in_value}
use Rattle.vtimezone.specs.ReadValues.{local_in, locals_in, offset_in, text_value, utc_in}

-- ---- parts

-- the names of the lines of a group
abbrev pub is_part_line : Named → Bool
is_part_line l =
    bytes_eq l.name (codes "DTSTART") || bytes_eq l.name (codes "TZOFFSETFROM")
    || bytes_eq l.name (codes "TZOFFSETTO") || bytes_eq l.name (codes "TZNAME")
    || bytes_eq l.name (codes "RDATE") || bytes_eq l.name (codes "RRULE")

-- the local times of any number of lines
abbrev pub dates_in : List (List ℕ) → Option (List ℤ)
dates_in values = option_map (flat_map (λ dates. dates)) (all_read locals_in values)

-- the part of a group's lines: one of each name, any number of dates, a rule or none, and no
-- others
unfoldable pub part_of_lines : Bool → List Named → Option Part
part_of_lines dst lines =
    if list_all is_part_line lines
    then part_with_fields dst (one_read local_in (values_of (codes "DTSTART") lines))
    (one_read offset_in (values_of (codes "TZOFFSETFROM") lines))
    (one_read offset_in (values_of (codes "TZOFFSETTO") lines))
    (one_read text_value (values_of (codes "TZNAME") lines))
    (dates_in (values_of (codes "RDATE") lines))
    (one_if_any recur_in_value (values_of (codes "RRULE") lines))
    else None

-- ---- components

abbrev pub is_line : List ℕ → List ℕ → Named → Bool
is_line name value l = bytes_eq l.name name && bytes_eq l.value value

-- a line at which a component begins or ends
abbrev pub is_frame_line : Named → Bool
is_frame_line l = bytes_eq l.name (codes "BEGIN") || bytes_eq l.name (codes "END")

-- the lines of a component before those of the components in it, and these
abbrev pub properties : List Named → List Named
properties lines = take_while (λ l. not (is_frame_line l)) lines

abbrev pub components : List Named → List Named
components lines = drop (length (properties lines)) lines

abbrev pub is_end_line : List ℕ → List Named → Bool
is_end_line component (l ∷ []) = is_line (codes "END") component l
is_end_line component lines = false

-- what stands between the BEGIN of a component, with which the lines begin, and its END, with which
-- they end
unfoldable pub inside : List ℕ → List Named → Option (List Named)
inside component [] = None
inside component (l ∷ ls) =
    let last = length ls - 1 in
    if is_line (codes "BEGIN") component l && is_end_line component (drop last ls)
    then Some (take last ls) else None

abbrev pub group_name : Bool → List ℕ
group_name true = codes "DAYLIGHT"
group_name false = codes "STANDARD"

-- the parts of groups: outside of a group, and inside of one that is begun
unfoldable pub parts_among : Option Bool → List Named → List Named → Option (List Part)
parts_among None held [] = Some []
parts_among (Some dst) held [] = None
parts_among None held (l ∷ ls) =
    if is_line (codes "BEGIN") (codes "STANDARD") l then parts_among (Some false) [] ls
    else if is_line (codes "BEGIN") (codes "DAYLIGHT") l then parts_among (Some true) [] ls
    else None
parts_among (Some dst) held (l ∷ ls) =
    if is_line (codes "END") (group_name dst) l
    then put_before (part_of_lines dst held) (parts_among None [] ls)
    else if is_frame_line l then None else parts_among (Some dst) (held ++ l ∷ []) ls

-- ---- the time zone

abbrev pub is_zone_line : Named → Bool
is_zone_line l =
    bytes_eq l.name (codes "TZID") || bytes_eq l.name (codes "TZID-ALIAS-OF")
    || bytes_eq l.name (codes "TZUNTIL")

-- one identifier, one zone of which it is an alias or none, one end or none, and parts
unfoldable pub zone_spelled : List Named → Option Spelling
zone_spelled lines =
    if list_all is_zone_line (properties lines)
    then spelling_with (one_read text_value (values_of (codes "TZID") (properties lines)))
    (one_if_any text_value (values_of (codes "TZID-ALIAS-OF") (properties lines)))
    (one_if_any utc_in (values_of (codes "TZUNTIL") (properties lines)))
    (parts_among None [] (components lines))
    else None

-- ---- the calendar

abbrev pub is_calendar_line : Named → Bool
is_calendar_line l = bytes_eq l.name (codes "VERSION") || bytes_eq l.name (codes "PRODID")

-- it is of this version of iCalendar, and says what made it
abbrev pub is_calendar : List Named → Bool
is_calendar lines =
    list_all is_calendar_line lines && only_is (codes "2.0") (values_of (codes "VERSION") lines)
    && length (values_of (codes "PRODID") lines) == 1

unfoldable pub calendar_spelled : List Named → Option Spelling
calendar_spelled lines =
    if is_calendar (properties lines)
    then option_and_then zone_spelled (inside (codes "VTIMEZONE") (components lines)) else None

unfoldable pub spelled_by : List (List ℕ) → Option Spelling
spelled_by lines =
    option_and_then calendar_spelled
    (option_and_then (inside (codes "VCALENDAR")) (all_read (cut_first 58) lines))

-- what a text spells, if it spells anything
abbrev pub spelled : List ℕ → Option Spelling
spelled text = option_and_then spelled_by (result_ok (unfolded text))
