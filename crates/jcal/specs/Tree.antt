-- A calendar with one time zone as JSON (RFC 7265; TZUNTIL and TZID-ALIAS-OF are those of RFC 7808,
-- section 7).
use Rattle.std.specs.Prelude.{ℕ, List, [], ◌∷◌, ◌++◌, map, codes, Bool, if◌then◌else◌}
use Rattle.std.specs.Prelude.{ℤ, pos, ◌+ℤ◌, Option, None, Some}
use Rattle.std.specs.Fmt.{signed_decimal}
use Rattle.serde_json.specs.Data.{Data, number, string, array, object, no_items, item}
use Rattle.serde_json.specs.Data.{Members, no_members, member}
use Rattle.serde_json.specs.Find.{of_integer}
use Rattle.serde_json.specs.View.{items_of}
use Rattle.serde_json.specs.Written.{compact_text}
use Rattle.td_civil.specs.declared.moment_type.Moment.{Moment}
use Rattle.td_civil.specs.Calendar.{text_of}
use Rattle.recurrence.specs.declared.part_types.Part.{Part}
use Rattle.recurrence.specs.declared.rule_types.Form.{Form}
use Rattle.recurrence.specs.declared.rule_types.Form.TheVariants as form
use Rattle.recurrence.specs.declared.rule_types.Rule.{Rule}
use Rattle.recurrence.specs.Weekdays.{weekday_name}
use Rattle.jcal.specs.Values.{local_text, jcal_offset_text}

-- a property: its name, no parameters, the type of its values, and these
abbrev pub property : List ℕ → List ℕ → List Data → Data
property name kind values =
    array (item (string name) (item (object no_members) (item (string kind) (items_of values))))

-- one whose value is a string
abbrev pub string_property : List ℕ → List ℕ → List ℕ → Data
string_property name kind value = property name kind (string value ∷ [])

-- a component: its name, its properties, and the components in it
abbrev pub component : List ℕ → List Data → List Data → Data
component name properties components =
    array (item (string name) (item (array (items_of properties))
    (item (array (items_of components)) no_items)))

-- ---- rules

abbrev pub integer : ℤ → Data
integer z = number (of_integer z)

-- seven numbers in a row
abbrev pub seven_data : ℤ → Data
seven_data first =
    array (items_of (integer first ∷ integer (first +ℤ pos 1) ∷ integer (first +ℤ pos 2)
    ∷ integer (first +ℤ pos 3) ∷ integer (first +ℤ pos 4) ∷ integer (first +ℤ pos 5)
    ∷ integer (first +ℤ pos 6) ∷ []))

-- the members that name the days, and others after them: members stand in rising order of their
-- names
unfoldable pub form_members : Form → Members → Members
form_members (form.NthDay month nth weekday) rest =
    member (codes "byday") (string (signed_decimal nth ++ weekday_name weekday))
    (member (codes "bymonth") (integer (pos month)) rest)
form_members (form.MonthDays month first weekday) rest =
    member (codes "byday") (string (weekday_name weekday))
    (member (codes "bymonth") (integer (pos month))
    (member (codes "bymonthday") (seven_data (pos first)) rest))
form_members (form.YearDays first weekday) rest =
    member (codes "byday") (string (weekday_name weekday))
    (member (codes "byyearday") (seven_data first) rest)
form_members (form.FixedDate month day) rest =
    member (codes "bymonth") (integer (pos month))
    (member (codes "bymonthday") (integer (pos day)) rest)

-- the last moment of a rule, if there is one
unfoldable pub last_members : Option Moment → Members
last_members None = no_members
last_members (Some last) = member (codes "until") (string (text_of last.seconds)) no_members

unfoldable pub recur_data : Form → Option Moment → Data
recur_data form until =
    object (form_members form
    (member (codes "freq") (string (codes "YEARLY")) (last_members until)))

-- ---- parts

abbrev pub component_kind : Bool → List ℕ
component_kind dst = if dst then codes "daylight" else codes "standard"

-- the first onset, by the clocks before it, both offsets and the name
unfoldable pub change_properties : Part → List Data
change_properties p =
    string_property (codes "dtstart") (codes "date-time") (local_text p.start.seconds p.from)
    ∷ string_property (codes "tzoffsetfrom") (codes "utc-offset") (jcal_offset_text p.from)
    ∷ string_property (codes "tzoffsetto") (codes "utc-offset") (jcal_offset_text p.to)
    ∷ string_property (codes "tzname") (codes "text") p.name ∷ []

abbrev pub date_data : ℤ → Moment → Data
date_data offset d = string (local_text d.seconds offset)

-- local times, a value each
abbrev pub dates_property : Moment → List Moment → ℤ → Data
dates_property first dates offset =
    property (codes "rdate") (codes "date-time") (map (date_data offset) (first ∷ dates))

-- the other onsets, by the same clocks
unfoldable pub dates_properties : List Moment → ℤ → List Data
dates_properties [] offset = []
dates_properties (first ∷ dates) offset = dates_property first dates offset ∷ []

unfoldable pub rule_properties : Option Rule → Option Moment → List Data
rule_properties None until = []
rule_properties (Some rule) until =
    property (codes "rrule") (codes "recur") (recur_data rule.form until ∷ []) ∷ []

abbrev pub part_properties : Part → List Data
part_properties p =
    change_properties p ++ dates_properties p.dates p.from ++ rule_properties p.rule p.until

unfoldable pub part_data : Part → Data
part_data p = component (component_kind p.dst) (part_properties p) []

-- ---- the time zone and the calendar

-- the identifier of which this one is an alias
unfoldable pub alias_properties : Option (List ℕ) → List Data
alias_properties None = []
alias_properties (Some tzid) = string_property (codes "tzid-alias-of") (codes "text") tzid ∷ []

-- where the range ends
unfoldable pub end_properties : Option Moment → List Data
end_properties None = []
end_properties (Some end) =
    string_property (codes "tzuntil") (codes "date-time") (text_of end.seconds) ∷ []

abbrev pub zone_properties : List ℕ → Option (List ℕ) → Option Moment → List Data
zone_properties tzid alias_of until =
    string_property (codes "tzid") (codes "text") tzid ∷ alias_properties alias_of
    ++ end_properties until

unfoldable pub calendar_data : List ℕ → Option (List ℕ) → List Part → Option Moment → Data
calendar_data tzid alias_of parts until =
    component (codes "vtimezone") (zone_properties tzid alias_of until) (map part_data parts)

unfoldable pub calendar_properties : List Data
calendar_properties =
    string_property (codes "version") (codes "text") (codes "2.0")
    ∷ string_property (codes "prodid") (codes "text") (codes "-//tzdistd//RFC 7808//EN") ∷ []

unfoldable pub tree : List ℕ → Option (List ℕ) → List Part → Option Moment → Data
tree tzid alias_of parts until =
    component (codes "vcalendar") calendar_properties (calendar_data tzid alias_of parts until ∷ [])

-- its text
unfoldable pub calendar : List ℕ → Option (List ℕ) → List Part → Option Moment → List ℕ
calendar tzid alias_of parts until = compact_text (tree tzid alias_of parts until)
