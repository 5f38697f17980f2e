-- What the calendar of a zone is read as, and what is told of it.
use Rattle.std.specs.Prelude.{◌≡◌, ℕ, List, None, Some, Ok, ℤ}
use Rattle.std.specs.Int.{int_max}
use Rattle.catalogue.specs.Lookups.{named, zones_of}
use Rattle.catalogue.specs.Releases.{ContentData, ReleaseData}
use Rattle.zone_meaning.specs.Observed.{IsRange, observed}
use Rattle.zone_meaning.specs.State.{zone_state}
use Rattle.sync_core.specs.Mirrors.{ZoneFile, file_name}
use Rattle.sync_core.specs.Names.{at_text}
use Rattle.sync_core.specs.declared.heard_type.Heard.{Heard}
use Rattle.sync_core.specs.declared.heard_type.Heard.TheVariants as heard
use Rattle.vtimezone_reader.specs.Observing.{IsFirstOnset, calendar_observed}
use Rattle.vtimezone_reader.specs.ReadLines.{calendar_in}
use Rattle.vtimezone_reader.specs.declared.calendar_type.Calendar.{Calendar}

-- A text reads as a calendar of the name, without an end, and what it tells of each range from its
-- first onset on are the observances of the zone with this file. No range begins before that onset.
pub record IsZoneCalendar (name file text : List ℕ) : Type 0 where
  pub calendar : Calendar
  pub reads : calendar_in text ≡ Ok calendar
  pub is_named : calendar.tzid ≡ name
  pub endless : calendar.until ≡ None
  pub tells : (first a b : ℤ) → IsFirstOnset calendar.parts first → IsRange a b
      → calendar_observed calendar.parts (int_max a first) b ≡ observed (zone_state file) a b

-- this is heard where the name is asked for: the calendar of the zone that has the name
pub record IsCalendarAnswer (G : List ReleaseData) (name : List ℕ) (h : Heard) : Type 0 where
  pub zone : ContentData
  pub has_name : named (zones_of G) name ≡ Some zone
  pub text : List ℕ
  pub is_heard : h ≡ heard.Zone text
  pub is_calendar : IsZoneCalendar name zone.file text

-- a text is kept under the name: the calendar of the zone with this file
pub record KeepsCalendarText (texts : List ZoneFile) (name file : List ℕ) : Type 0 where
  pub text : List ℕ
  pub kept : at_text file_name texts name ≡ Some (record { tzid = name; bytes = text })
  pub is_calendar : IsZoneCalendar name file text
