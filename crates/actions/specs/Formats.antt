-- How each format of a zone's data is served.
use Rattle.std.specs.Prelude.{ℕ, List, if◌then◌else◌, Option, Some, None, codes}
use Rattle.std.specs.Str.{bytes_eq}
use Rattle.catalogue.specs.Releases.{ContentData}
use Rattle.http_answer.specs.declared.answer.Kind.{Kind}
use Rattle.http_answer.specs.declared.answer.Kind.TheVariants as kind
use Rattle.jcal.specs.Tree.{calendar as json_calendar}
use Rattle.negotiate.specs.declared.choosing.Format.{Format}
use Rattle.negotiate.specs.declared.choosing.Format.TheVariants as format
use Rattle.vtimezone.specs.CalendarText.{calendar}
use Rattle.recurrence.specs.Spellable.{IsSafe}
use Rattle.recurrence.specs.Spelling.{Spelling}
use Rattle.vtimezone.specs.ZoneParts.{range_parts}
use Rattle.actions.specs.declared.bounds.Bounds.{Bounds}
use Rattle.actions.specs.declared.bounds.BoundRule.{BoundRule}
use Rattle.actions.specs.declared.bounds.BoundRule.TheVariants as rule
use Rattle.actions.specs.Bounds.{end_if_any, range_between}

-- which bounds a format takes, what its content is said to be, the mark of its tags, and its text
-- of a zone between two bounds, under the name that was asked for
pub record FormData : Type 0 where
  pub bounds : BoundRule
  pub kind : Kind
  pub mark : List ℕ
  pub text : List ℕ → ContentData → Bounds → List ℕ

-- a name and the identifier of its zone hold no byte that a calendar has to escape
pub record AreTexts (asked zone : List ℕ) : Type 0 where
  pub name : IsSafe asked
  pub tzid : IsSafe zone

-- the identifier of the zone, where the name is an alias
abbrev pub alias_of : List ℕ → List ℕ → Option (List ℕ)
alias_of name tzid = if bytes_eq name tzid then None else Some tzid

unfoldable pub calendar_text : List ℕ → ContentData → Bounds → List ℕ
calendar_text name c bounds =
    calendar name (alias_of name c.tzid) (range_parts c.file (range_between bounds))
    (end_if_any bounds.end)

unfoldable pub json_text : List ℕ → ContentData → Bounds → List ℕ
json_text name c bounds =
    json_calendar name (alias_of name c.tzid) (range_parts c.file (range_between bounds))
    (end_if_any bounds.end)

-- what calendars of a zone between two bounds are to spell, in lines and as JSON
abbrev pub zone_spelling : List ℕ → ContentData → Bounds → Spelling
zone_spelling name c bounds = record {
  tzid = name;
  alias_of = alias_of name c.tzid;
  until = end_if_any bounds.end;
  parts = range_parts c.file (range_between bounds);
}

-- a file is whole, and names no zone
abbrev pub file_text : List ℕ → ContentData → Bounds → List ℕ
file_text name c bounds = c.file

abbrev pub format_data : Format → FormData
format_data format.Calendar = record {
  bounds = rule.Optional;
  kind = kind.Calendar;
  mark = codes "c2";
  text = calendar_text;
}
format_data format.Tzif = record {
  bounds = rule.Refused;
  kind = kind.Tzif;
  mark = codes "t";
  text = file_text;
}
format_data format.CalendarJson = record {
  bounds = rule.Optional;
  kind = kind.CalendarJson;
  mark = codes "j";
  text = json_text;
}
