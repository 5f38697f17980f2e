-- That a mirror which asks for calendars in the place of files holds the last release of a history.
use Rattle.std.specs.Prelude.{ℕ, List, [], length, map, None, Some, ◌≡◌}
use Rattle.td_base.specs.declared.report.Ask.{Ask}
use Rattle.td_civil.specs.declared.moment_type.TheConstants.{LO}
use Rattle.catalogue.specs.Histories.{token_of}
use Rattle.catalogue.specs.Lookups.{zones_of}
use Rattle.catalogue.specs.Releases.{ContentData, ReleaseData}
use Rattle.http_request.specs.declared.head.Head.{Head}
use Rattle.negotiate.specs.declared.choosing.Format.TheVariants.{Calendar}
use Rattle.recurrence.specs.declared.part_types.Range.{Range}
use Rattle.vtimezone.specs.CalendarText.{calendar}
use Rattle.vtimezone.specs.ZoneParts.{range_parts}
use Rattle.sync_core.specs.Mirrors.{MirrorState, ZoneFile}
use Rattle.sync_core.specs.declared.heard_type.Heard.{Heard}
use Rattle.sync_world.specs.Hearing.{IsDataHeadOf, IsDataHeardOver, data_service}
use Rattle.sync_world.specs.Primaries.{Service, list_told}

-- the head is one of a request that asks for a zone as a calendar
abbrev pub IsCalendarHeadOf : Ask → Head → Type 0
IsCalendarHeadOf a head = IsDataHeadOf Calendar a head

-- this is heard in the answer to such a request
abbrev pub IsCalendarHeardOver : List ReleaseData → Ask → Heard → Type 0
IsCalendarHeardOver H a h = IsDataHeardOver Calendar H a h

-- a primary that answers so
abbrev pub calendar_service : Service
calendar_service = data_service Calendar

-- from where meaning begins, without an end
abbrev pub all_time : Range
all_time = record { from = record { seconds = LO }; until = None }

-- the calendar of a zone under its identifier
abbrev pub zone_calendar : ContentData → List ℕ
zone_calendar c = calendar c.tzid None (range_parts c.file all_time) None

-- the text that a mirror keeps of a zone
abbrev pub kept_calendar : ContentData → ZoneFile
kept_calendar c = record { tzid = c.tzid; bytes = zone_calendar c }

-- the token of its place, its list, and the calendar of each of its zones; nothing is pending and
-- no token is coming
pub record HoldsCalendars (s : MirrorState) (G : List ReleaseData) : Type 0 where
  pub token : s.token ≡ Some (token_of G (length G))
  pub entries : s.entries ≡ list_told G
  pub texts : s.files ≡ map kept_calendar (zones_of G)
  pub pending : s.pending ≡ []
  pub coming : s.coming ≡ None
