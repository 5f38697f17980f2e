-- The text of a calendar with one time zone (RFC 5545, sections 3.4 and 3.6.5; TZUNTIL and
-- TZID-ALIAS-OF are those of RFC 7808, section 7).
use Rattle.std.specs.Prelude.{◌≡◌, true, not, ℕ, List, [], ◌∷◌, ◌++◌, codes, Bool, if◌then◌else◌, ℤ}
use Rattle.std.specs.Prelude.{Option, None, Some}
use Rattle.std.specs.List.{flat_map, list_all}
use Rattle.std.specs.Option.{IfSome}
use Rattle.td_civil.specs.declared.moment_type.Moment.{Moment}
use Rattle.td_civil.specs.Calendar.{local_text_of}
use Rattle.ical_lines.specs.Lines.{lines_written}
use Rattle.ical_lines.specs.Unfolding.{is_feed}
use Rattle.recurrence.specs.declared.part_types.Part.{Part}
use Rattle.recurrence.specs.declared.rule_types.Rule.{Rule}
use Rattle.recurrence.specs.Valid.{IsValidForm}
use Rattle.vtimezone.specs.Values.{dates_text, offset_text, utc_basic, rule_text}

-- a name, a colon and a value
abbrev pub line : List ℕ → List ℕ → List ℕ
line name value = name ++ 58 ∷ value

abbrev pub kind_of : Bool → List ℕ
kind_of dst = if dst then codes "DAYLIGHT" else codes "STANDARD"

-- the first onset, by the clocks before it
unfoldable pub start_line : Moment → ℤ → List ℕ
start_line start offset = line (codes "DTSTART") (local_text_of start.seconds offset)

-- with both offsets and the name
unfoldable pub change_lines : Part → List (List ℕ)
change_lines p =
    start_line p.start p.from
    ∷ line (codes "TZOFFSETFROM") (offset_text p.from)
    ∷ line (codes "TZOFFSETTO") (offset_text p.to)
    ∷ line (codes "TZNAME") p.name ∷ []

-- the other onsets, by the same clocks
unfoldable pub date_lines : List Moment → ℤ → List (List ℕ)
date_lines [] offset = []
date_lines (first ∷ dates) offset = line (codes "RDATE") (dates_text first dates offset) ∷ []

unfoldable pub rule_lines : Option Rule → Option Moment → List (List ℕ)
rule_lines None until = []
rule_lines (Some rule) until = line (codes "RRULE") (rule_text rule until) ∷ []

unfoldable pub part_lines : Part → List (List ℕ)
part_lines p =
    line (codes "BEGIN") (kind_of p.dst)
    ∷ change_lines p ++ date_lines p.dates p.from ++ rule_lines p.rule p.until
    ++ line (codes "END") (kind_of p.dst) ∷ []

-- the lines before the parts
unfoldable pub head_lines : List ℕ → List (List ℕ)
head_lines tzid =
    line (codes "BEGIN") (codes "VCALENDAR") ∷ line (codes "VERSION") (codes "2.0")
    ∷ line (codes "PRODID") (codes "-//tzdistd//RFC 7808//EN")
    ∷ line (codes "BEGIN") (codes "VTIMEZONE") ∷ line (codes "TZID") tzid ∷ []

-- the identifier of which this one is an alias
unfoldable pub alias_lines : Option (List ℕ) → List (List ℕ)
alias_lines None = []
alias_lines (Some tzid) = line (codes "TZID-ALIAS-OF") tzid ∷ []

-- where the range ends
unfoldable pub end_lines : Option Moment → List (List ℕ)
end_lines None = []
end_lines (Some end) = line (codes "TZUNTIL") (utc_basic end.seconds) ∷ []

unfoldable pub tail_lines : List (List ℕ)
tail_lines =
    line (codes "END") (codes "VTIMEZONE") ∷ line (codes "END") (codes "VCALENDAR") ∷ []

unfoldable pub calendar_lines : List ℕ → Option (List ℕ) → List Part → Option Moment → List (List ℕ)
calendar_lines tzid alias_of parts until =
    head_lines tzid ++ alias_lines alias_of ++ end_lines until ++ flat_map part_lines parts
    ++ tail_lines

-- the text of the lines
abbrev pub calendar : List ℕ → Option (List ℕ) → List Part → Option Moment → List ℕ
calendar tzid alias_of parts until = lines_written (calendar_lines tzid alias_of parts until)

-- a text that stands in one line
abbrev pub IsLineText : List ℕ → Type 0
IsLineText text = list_all (λ b. not (is_feed b)) text ≡ true

-- the lines of a part are each read as one
pub record IsReadable (p : Part) : Type 0 where
  pub name : IsLineText p.name
  pub rule : IfSome p.rule (λ r. IsValidForm r.form)
