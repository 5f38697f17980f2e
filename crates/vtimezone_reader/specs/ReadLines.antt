-- A calendar with one time zone, read line by line (RFC 5545, sections 3.4 and 3.6.5; TZUNTIL and
-- TZID-ALIAS-OF are those of RFC 7808, section 7): VCALENDAR, in it one VTIMEZONE, and in that one
-- or more of STANDARD and DAYLIGHT, each from its BEGIN to its END.
use Rattle.std.specs.Prelude.{ℕ, ◌+◌, nat_lt, List, [], ◌∷◌, ◌++◌, length, codes, Bool, true, false}
use Rattle.std.specs.Prelude.{◌&&◌, ◌||◌, if◌then◌else◌, Option, None, Some, Result, Ok, Err}
use Rattle.td_base.specs.FirstFault.{◌>>=◌}
use Rattle.td_base.specs.Names.{is_identifier}
use Rattle.ical_lines.specs.Unfolding.{unfolded}
use Rattle.ical_lines.specs.declared.line_fault.BadLine.{BadLine}
use Rattle.recurrence.specs.declared.part_types.Part.{Part}
use Rattle.vtimezone.specs.CalendarText.{kind_of}
use Rattle.vtimezone.specs.ReadValues.{utc_in}
use Rattle.vtimezone_reader.specs.declared.calendar_fault.CalendarFault.{CalendarFault}
use Rattle.vtimezone_reader.specs.declared.calendar_fault.CalendarFault.TheVariants as refused
use Rattle.vtimezone_reader.specs.declared.calendar_fault.LineFault.{LineFault}
use Rattle.vtimezone_reader.specs.declared.calendar_fault.LineFault.TheVariants as fault
use Rattle.vtimezone_reader.specs.declared.calendar_type.Calendar.{Calendar}
use Rattle.vtimezone_reader.specs.declared.calendar_type.TheConstants.{MOST_BYTES}
use Rattle.vtimezone_reader.specs.declared.part_lines.OpenPart.{OpenPart}
use Rattle.vtimezone_reader.specs.declared.zone_lines.OpenZone.{OpenZone}
use Rattle.vtimezone_reader.specs.declared.standing.Standing.{Standing}
use Rattle.vtimezone_reader.specs.declared.standing.Standing.TheVariants as at
use Rattle.vtimezone_reader.specs.ContentLines.{is_word, name_of, value_of}
use Rattle.vtimezone_reader.specs.Faults.{fault_at, of_bad_line}
use Rattle.vtimezone_reader.specs.PartLines.{set_once, begun_part, part_line, part_of}

-- ---- the lines of the time zone itself

abbrev pub begun_zone : OpenZone
begun_zone = record { tzid = None; alias_of = None; until = None; parts = [] }

abbrev pub identifier_in : List ℕ → Option (List ℕ)
identifier_in text = if is_identifier text then Some text else None

-- one more line of the time zone
unfoldable pub zone_line : OpenZone → List ℕ → List ℕ → Result OpenZone LineFault
zone_line z name value =
    if is_word name (codes "TZID")
    then (set_once z.tzid fault.Value (identifier_in value)
    >>= λ v. Ok (record z { tzid = Some v }))
    else if is_word name (codes "TZID-ALIAS-OF")
    then (set_once z.alias_of fault.Value (identifier_in value)
    >>= λ v. Ok (record z { alias_of = Some v }))
    else if is_word name (codes "TZUNTIL")
    then (set_once z.until fault.Value (utc_in value)
    >>= λ v. Ok (record z { until = Some v }))
    else Ok z

-- one more part
abbrev pub with_part : OpenZone → Part → OpenZone
with_part z part = record z { parts = z.parts ++ part ∷ [] }

abbrev pub has_part : OpenZone → Bool
has_part z = nat_lt 0 (length z.parts)

-- an identifier must be there
abbrev pub calendar_if : OpenZone → Option (List ℕ) → Result Calendar LineFault
calendar_if z None = Err fault.Count
calendar_if z (Some tzid) =
    Ok (record { tzid = tzid; alias_of = z.alias_of; until = z.until; parts = z.parts })

abbrev pub calendar_of : OpenZone → Result Calendar LineFault
calendar_of z = calendar_if z z.tzid

-- ---- the order of the lines

abbrev pub begins : List ℕ → List ℕ → List ℕ → Bool
begins name value component = is_word name (codes "BEGIN") && is_word value component

abbrev pub ends : List ℕ → List ℕ → List ℕ → Bool
ends name value component = is_word name (codes "END") && is_word value component

abbrev pub is_mark : List ℕ → Bool
is_mark name = is_word name (codes "BEGIN") || is_word name (codes "END")

-- any line that is no mark
abbrev pub stays : Standing → List ℕ → Result Standing LineFault
stays s name = if is_mark name then Err fault.Frame else Ok s

unfoldable pub in_zone : OpenZone → List ℕ → List ℕ → Result Standing LineFault
in_zone z name value =
    if begins name value (codes "STANDARD") then Ok (at.InPart z (begun_part false))
    else if begins name value (codes "DAYLIGHT") then Ok (at.InPart z (begun_part true))
    else if ends name value (codes "VTIMEZONE") && has_part z
    then (calendar_of z >>= λ c. Ok (at.AfterZone c))
    else if is_mark name then Err fault.Frame
    else zone_line z name value >>= λ now. Ok (at.InZone now)

unfoldable pub in_part : OpenZone → OpenPart → List ℕ → List ℕ → Result Standing LineFault
in_part z p name value =
    if ends name value (kind_of p.dst)
    then (part_of p >>= λ part. Ok (at.InZone (with_part z part)))
    else if is_mark name then Err fault.Frame
    else part_line p name value >>= λ now. Ok (at.InPart z now)

-- where the reader stands after a line
unfoldable pub step : Standing → List ℕ → List ℕ → Result Standing LineFault
step at.Outside name value =
    if begins name value (codes "VCALENDAR") then Ok at.InCalendar else Err fault.Frame
step at.InCalendar name value =
    if begins name value (codes "VTIMEZONE") then Ok (at.InZone begun_zone)
    else stays at.InCalendar name
step (at.InZone z) name value = in_zone z name value
step (at.InPart z p) name value = in_part z p name value
step (at.AfterZone c) name value =
    if ends name value (codes "VCALENDAR") then Ok (at.Ended c) else stays (at.AfterZone c) name
step (at.Ended c) name value = Err fault.Frame

-- ---- all lines, counted from 0

abbrev pub at_line : {A : Type 0} → ℕ → Result A LineFault → Result A CalendarFault
at_line n (Ok x) = Ok x
at_line n (Err e) = Err (fault_at n e)

-- a line is a name and a value
abbrev pub step_if : Standing → List ℕ → Option (List ℕ) → Result Standing LineFault
step_if s name None = Err fault.Property
step_if s name (Some value) = step s name value

abbrev pub line_read : ℕ → Standing → List ℕ → Result Standing CalendarFault
line_read n s line = at_line n (step_if s (name_of line) (value_of line))

-- the lines end after the last END
abbrev pub ended_at : ℕ → Standing → Result Calendar CalendarFault
ended_at n (at.Ended c) = Ok c
ended_at n s = Err (refused.Frame n)

unfoldable pub lines_read : ℕ → Standing → List (List ℕ) → Result Calendar CalendarFault
lines_read n s [] = ended_at n s
lines_read n s (line ∷ lines) = line_read n s line >>= λ now. lines_read (n + 1) now lines

abbrev pub of_lines : Result (List (List ℕ)) BadLine → Result Calendar CalendarFault
of_lines (Ok lines) = lines_read 0 at.Outside lines
of_lines (Err bad) = Err (of_bad_line bad)

-- ---- a whole text

-- the calendar of a text, or the first fault of it
unfoldable pub calendar_in : List ℕ → Result Calendar CalendarFault
calendar_in text =
    if nat_lt MOST_BYTES (length text) then Err refused.TooLarge else of_lines (unfolded text)
