-- What a calendar as JSON spells, read from it (RFC 7265). A component is its name, its properties
-- and the components in it; a property is its name, no parameters, a type and values of that type.
-- A value that has anything else spells nothing.
use Rattle.std.specs.Prelude.{ℕ, ◌==◌, nat_le, List, [], ◌∷◌, codes, filter, Bool, true, false}
use Rattle.std.specs.Prelude.{◌&&◌}
use Rattle.std.specs.Prelude.{◌||◌, if◌then◌else◌, ℤ, pos, unsigned_abs, Option, None, Some, length}
use Rattle.std.specs.List.{list_all}
use Rattle.std.specs.Option.{option_map, option_and_then}
use Rattle.std.specs.Str.{bytes_eq}
use Rattle.serde_json.specs.Data.{Data, number, string, array, object, unsigned, negative, Items}
use Rattle.serde_json.specs.Data.{no_items, item, Members, no_members, member}
use Rattle.recurrence.specs.declared.part_types.Part.{Part}
use Rattle.recurrence.specs.declared.rule_types.Form.{Form}
use Rattle.recurrence.specs.AllRead.{all_read}
use Rattle.recurrence.specs.FormFields.{form_read}
use Rattle.recurrence.specs.PartFields.{Recur, recur_with_fields, part_with_fields}
use Rattle.recurrence.specs.Spelling.{Spelling, spelling_with}
use Rattle.recurrence.specs.Weekdays.{Day, day_of_text}
use Rattle.jcal.specs.Values.{jcal_local_in, jcal_utc_in, jcal_offset_in}

abbrev pub items_of_data : Items → List Data
items_of_data no_items = []
items_of_data (item d ds) = d ∷ items_of_data ds

-- ---- properties and components

pub record Property : Type 0 where
  pub name : List ℕ
  pub kind : List ℕ
  pub values : List Data

unfoldable pub property_in : Data → Option Property
property_in (array (item (string name) (item (object no_members) (item (string kind) values)))) =
    Some (record { name = name; kind = kind; values = items_of_data values })
property_in d = None

pub record Component : Type 0 where
  pub name : List ℕ
  pub properties : List Property
  pub components : List Data

abbrev pub component_with : List ℕ → Option (List Property) → List Data → Option Component
component_with name (Some properties) components =
    Some (record { name = name; properties = properties; components = components })
component_with name None components = None

unfoldable pub component_in : Data → Option Component
component_in (array (item (string name) (item (array ps) (item (array cs) no_items)))) =
    component_with name (all_read property_in (items_of_data ps)) (items_of_data cs)
component_in d = None

abbrev pub properties_named : List ℕ → List Property → List Property
properties_named name properties = filter (λ p. bytes_eq p.name name) properties

-- what is read of the one property
abbrev pub one_property_read : {B : Type 0} → (Property → Option B) → List Property → Option B
one_property_read read (p ∷ []) = read p
one_property_read read properties = None

-- and of the property, if there is one
abbrev pub one_property_if_any : {B : Type 0} → (Property → Option B) → List Property
    → Option (Option B)
one_property_if_any read [] = Some None
one_property_if_any read (p ∷ []) = option_map Some (read p)
one_property_if_any read properties = None

-- a string, read
abbrev pub string_in : {B : Type 0} → (List ℕ → Option B) → Data → Option B
string_in read (string text) = read text
string_in read d = None

abbrev pub one_value : {B : Type 0} → (Data → Option B) → List Data → Option B
one_value read (d ∷ []) = read d
one_value read values = None

-- the one value of a property of this type, and the values
abbrev pub value_in_property : {B : Type 0} → List ℕ → (Data → Option B) → Property → Option B
value_in_property kind read p = if bytes_eq p.kind kind then one_value read p.values else None

abbrev pub values_in : {B : Type 0} → List ℕ → (Data → Option B) → Property → Option (List B)
values_in kind read p = if bytes_eq p.kind kind then all_read read p.values else None

-- ---- rules

abbrev pub integer_in : Data → Option ℤ
integer_in (number (unsigned n)) = Some (pos n)
integer_in (number (negative z)) = Some z
integer_in d = None

-- without its sign a number from 1 to `most`
abbrev pub within : ℕ → ℤ → Option ℤ
within most z =
    if nat_le 1 (unsigned_abs z) && nat_le (unsigned_abs z) most then Some z else None

abbrev pub number_in_data : ℕ → Data → Option ℤ
number_in_data most d = option_and_then (within most) (integer_in d)

-- a number, or a list of numbers
abbrev pub numbers_in_data : ℕ → Data → Option (List ℤ)
numbers_in_data most (array ds) = all_read (number_in_data most) (items_of_data ds)
numbers_in_data most d = option_map (λ z. z ∷ []) (number_in_data most d)

abbrev pub month_in_data : Data → Option (List ℤ)
month_in_data d = option_map (λ z. z ∷ []) (number_in_data 12 d)

abbrev pub weekday_in_data : List ℕ → Option (List Day)
weekday_in_data text = option_map (λ d. d ∷ []) (day_of_text text)

pub record Entry : Type 0 where
  pub name : List ℕ
  pub value : Data

abbrev pub entries_of_data : Members → List Entry
entries_of_data no_members = []
entries_of_data (member name value rest) =
    record { name = name; value = value } ∷ entries_of_data rest

-- what is read of the value of that name, if there is one
abbrev pub entry_read : {B : Type 0} → (Data → Option B) → List Entry → Option (Option B)
entry_read read [] = Some None
entry_read read (e ∷ []) = option_map Some (read e.value)
entry_read read entries = None

abbrev pub entry_named : {B : Type 0} → List ℕ → (Data → Option B) → List Entry
    → Option (Option B)
entry_named name read entries = entry_read read (filter (λ e. bytes_eq e.name name) entries)

-- a word, which is this one
abbrev pub word_in : List ℕ → Data → Option Bool
word_in word (string text) = if bytes_eq text word then Some true else None
word_in word d = None

abbrev pub is_rule_entry : Entry → Bool
is_rule_entry e =
    bytes_eq e.name (codes "freq") || bytes_eq e.name (codes "until")
    || bytes_eq e.name (codes "bymonth") || bytes_eq e.name (codes "byday")
    || bytes_eq e.name (codes "bymonthday") || bytes_eq e.name (codes "byyearday")

abbrev pub form_in_entries : List Entry → Option Form
form_in_entries entries =
    form_read (entry_named (codes "bymonth") month_in_data entries)
    (entry_named (codes "bymonthday") (numbers_in_data 31) entries)
    (entry_named (codes "byyearday") (numbers_in_data 366) entries)
    (entry_named (codes "byday") (string_in weekday_in_data) entries)

-- where a rule is one of each year
abbrev pub yearly : Option (Option Bool) → Option Recur → Option Recur
yearly (Some (Some true)) recur = recur
yearly word recur = None

abbrev pub recur_of_entries : List Entry → Option Recur
recur_of_entries entries =
    if list_all is_rule_entry entries
    then yearly (entry_named (codes "freq") (word_in (codes "YEARLY")) entries)
    (recur_with_fields (form_in_entries entries)
    (entry_named (codes "until") (string_in jcal_utc_in) entries))
    else None

unfoldable pub recur_in_data : Data → Option Recur
recur_in_data (object ms) = recur_of_entries (entries_of_data ms)
recur_in_data d = None

-- ---- parts

abbrev pub is_part_property : Property → Bool
is_part_property p =
    bytes_eq p.name (codes "dtstart") || bytes_eq p.name (codes "tzoffsetfrom")
    || bytes_eq p.name (codes "tzoffsetto") || bytes_eq p.name (codes "tzname")
    || bytes_eq p.name (codes "rdate") || bytes_eq p.name (codes "rrule")

-- dates or none
abbrev pub dates_or_none : Option (Option (List ℤ)) → Option (List ℤ)
dates_or_none (Some (Some dates)) = Some dates
dates_or_none (Some None) = Some []
dates_or_none None = None

unfoldable pub part_of_properties : Bool → List Property → Option Part
part_of_properties dst ps =
    if list_all is_part_property ps
    then part_with_fields dst
    (one_property_read (value_in_property (codes "date-time") (string_in jcal_local_in))
    (properties_named (codes "dtstart") ps))
    (one_property_read (value_in_property (codes "utc-offset") (string_in jcal_offset_in))
    (properties_named (codes "tzoffsetfrom") ps))
    (one_property_read (value_in_property (codes "utc-offset") (string_in jcal_offset_in))
    (properties_named (codes "tzoffsetto") ps))
    (one_property_read (value_in_property (codes "text") (string_in Some))
    (properties_named (codes "tzname") ps))
    (dates_or_none (one_property_if_any (values_in (codes "date-time") (string_in jcal_local_in))
    (properties_named (codes "rdate") ps)))
    (one_property_if_any (value_in_property (codes "recur") recur_in_data)
    (properties_named (codes "rrule") ps))
    else None

-- the part of a component with no component in it
abbrev pub part_in_properties : List ℕ → List Property → List Data → Option Part
part_in_properties name properties [] =
    if bytes_eq name (codes "standard") then part_of_properties false properties
    else if bytes_eq name (codes "daylight") then part_of_properties true properties
    else None
part_in_properties name properties (d ∷ ds) = None

unfoldable pub part_in : Data → Option Part
part_in d =
    option_and_then (λ c. part_in_properties c.name c.properties c.components) (component_in d)

-- ---- the time zone and the calendar

abbrev pub is_zone_property : Property → Bool
is_zone_property p =
    bytes_eq p.name (codes "tzid") || bytes_eq p.name (codes "tzid-alias-of")
    || bytes_eq p.name (codes "tzuntil")

unfoldable pub zone_of : Component → Option Spelling
zone_of c =
    if bytes_eq c.name (codes "vtimezone") && list_all is_zone_property c.properties
    then spelling_with
    (one_property_read (value_in_property (codes "text") (string_in Some))
    (properties_named (codes "tzid") c.properties))
    (one_property_if_any (value_in_property (codes "text") (string_in Some))
    (properties_named (codes "tzid-alias-of") c.properties))
    (one_property_if_any (value_in_property (codes "date-time") (string_in jcal_utc_in))
    (properties_named (codes "tzuntil") c.properties))
    (all_read part_in c.components)
    else None

abbrev pub is_calendar_property : Property → Bool
is_calendar_property p = bytes_eq p.name (codes "version") || bytes_eq p.name (codes "prodid")

-- it is of this version of iCalendar, and says what made it
abbrev pub is_calendar_component : Component → Bool
is_calendar_component c =
    bytes_eq c.name (codes "vcalendar") && list_all is_calendar_property c.properties
    && length (properties_named (codes "prodid") c.properties) == 1

abbrev pub if_version : Option Bool → Option Spelling → Option Spelling
if_version (Some version) spelling = spelling
if_version None spelling = None

unfoldable pub calendar_of_tree : Component → Option Spelling
calendar_of_tree c =
    if is_calendar_component c
    then if_version (one_property_read (value_in_property (codes "text") (word_in (codes "2.0")))
    (properties_named (codes "version") c.properties))
    (one_value (λ d. option_and_then zone_of (component_in d)) c.components)
    else None

-- what a value spells, if it spells anything
unfoldable pub spelled : Data → Option Spelling
spelled d = option_and_then calendar_of_tree (component_in d)
