-- How `calmirror` ends: another server is synced with once, by a mirror that knows nothing yet and
-- keeps calendars, and what the calendar of each zone tells of a range is printed.
pub mod ObservanceLines
pub mod PrimaryLines
use Rattle.std.specs.Prelude.{◌≡◌, ◌≢◌, ℕ, List, [], ◌∷◌, ◌++◌, map, ℤ, int_lt}
use Rattle.std.specs.Prelude.{if◌then◌else◌, Option, None, Some, Result, Ok, Err}
use Rattle.std.specs.Int.{int_max, int_min}
use Rattle.std.specs.List.{flat_map}
use Rattle.td_base.specs.Transfer.{WritesAll}
use Rattle.td_base.specs.Upstreams.{UpstreamView}
use Rattle.td_base.specs.Views.{Rose, SinkView}
use Rattle.td_base.specs.declared.transfer.Written.TheVariants as written
use Rattle.td_civil.specs.declared.moment_type.Moment.{Moment}
use Rattle.catalogue.specs.Order.{IsRising}
use Rattle.http_client.specs.CalendarRequests.{calendar_request_text}
use Rattle.json_forms.specs.declared.zone_list.ListZone.{ListZone}
use Rattle.recurrence.specs.declared.part_types.Part.{Part}
use Rattle.mirror.specs.declared.sync_fault.SyncFault.TheVariants as sync
use Rattle.calendar_mirror.specs.CalendarShares.{CalendarSyncs}
use Rattle.calendar_mirror.specs.FaultText.{fault_text}
use Rattle.calendar_mirror.specs.declared.sync_fault.CalendarSyncFault.{CalendarSyncFault}
use Rattle.calendar_mirror.specs.declared.sync_fault.CalendarSyncFault.TheVariants as fault
use Rattle.sync_core.specs.Mirrors.{MirrorState, ZoneFile, empty_mirror, entry_name}
use Rattle.sync_core.specs.Published.{file_bytes}
use Rattle.vtimezone_reader.specs.Observing.{IsFirstOnset, calendar_observed}
use Rattle.vtimezone_reader.specs.ReadLines.{calendar_in}
use Rattle.vtimezone_reader.specs.declared.calendar_type.Calendar.{Calendar}
use Rattle.run_ends.specs.Outside.{LeavesStreams, World}
pub use Rattle.run_ends.specs.Running.CalendarMirroring.ObservanceLines.{observance_line}
pub use Rattle.run_ends.specs.Running.CalendarMirroring.ObservanceLines.{shown_name, shown_state}
pub use Rattle.run_ends.specs.Running.CalendarMirroring.ObservanceLines.{zone_line}
use Rattle.run_ends.specs.Running.CalendarMirroring.PrimaryLines.{PrintsPrimary}
use Rattle.run_ends.specs.Running.Mirroring.{EndsWith, ReachesServer}
use Rattle.run_ends.specs.Running.Server.{CalledTold}
use Rattle.run_ends.specs.declared.status.Status.{Status}
use Rattle.run_ends.specs.declared.status.Status.TheVariants as status

-- ---- lines

-- a line for each observance of a range, none where the range is empty
abbrev pub range_lines : List Part → ℤ → ℤ → List ℕ
range_lines parts a b =
    if int_lt a b then flat_map observance_line (calendar_observed parts a b) else []

-- the lesser of an end and of that of a calendar, if it has one
abbrev pub end_within : Option Moment → ℤ → ℤ
end_within None end = end
end_within (Some until) end = int_min end until.seconds

-- ---- what is kept

-- The lines that a calendar tells of a range: from its first onset at the earliest, and to its own
-- end at the latest.
pub record CalendarTells (calendar : Calendar) (start end : ℤ) (lines : List ℕ) : Type 0 where
  pub first : ℤ
  pub first_is : IsFirstOnset calendar.parts first
  pub lines_are : lines
      ≡ range_lines calendar.parts (int_max start first) (end_within calendar.until end)

-- what is kept of a name is a calendar of that name
pub record KeepsCalendar (files : List ZoneFile) (tzid : List ℕ) : Type 0 where
  pub text : List ℕ
  pub kept : file_bytes files tzid ≡ Some text
  pub calendar : Calendar
  pub reads : calendar_in text ≡ Ok calendar
  pub named : calendar.tzid ≡ tzid

-- the lines of a zone, by the calendar of its name that is kept
pub record ZoneTells (files : List ZoneFile) (start end : ℤ) (zone : ListZone) (lines : List ℕ)
    : Type 0 where
  pub keeps : KeepsCalendar files zone.tzid
  pub told : List ℕ
  pub tells : CalendarTells keeps.calendar start end told
  pub lines_are : lines ≡ zone_line zone.tzid ++ told

-- the lines of zones, one after another
pub data ZonesTell (files : List ZoneFile) (start end : ℤ) : List ListZone → List ℕ
    → Type 0 where
  none : ZonesTell files start end [] []
  more : (zones : List ListZone) (zone : ListZone) (before lines : List ℕ)
      → ZonesTell files start end zones before → ZoneTells files start end zone lines
      → ZonesTell files start end (zones ++ zone ∷ []) (before ++ lines)

-- what is printed of a settled mirror: a line for each zone that it knows, rising by identifier,
-- with those of its calendar
pub data PrintsCalendars (s : MirrorState) (start end : ℤ) (old new : SinkView)
    : Status → Type 0 where
  all : (lines : List ℕ) → IsRising (map entry_name s.entries)
      → ZonesTell s.files start end s.entries lines → WritesAll old new lines written.Whole
      → PrintsCalendars s start end old new status.Done
  -- a failed write cut the lines of the first zones
  cut : (zones rest : List ListZone) (lines : List ℕ) → s.entries ≡ zones ++ rest
      → ZonesTell s.files start end zones lines → WritesAll old new lines written.Cut
      → PrintsCalendars s start end old new status.NotWritten
  -- memory ran out after the lines of the first zones
  part : (zones rest : List ListZone) (lines : List ℕ) → s.entries ≡ zones ++ rest
      → ZonesTell s.files start end zones lines → WritesAll old new lines written.Whole
      → PrintsCalendars s start end old new status.NoMemory

-- ---- the run

-- a sync by requests that name the other server by this address
abbrev pub SyncsCalendars : List ℕ → MirrorState → MirrorState → UpstreamView → UpstreamView
    → Result (Unit {0}) CalendarSyncFault → Type 0
SyncsCalendars host s t old new result =
    CalendarSyncs (calendar_request_text host) s t old new result

-- how `calmirror` ends, with the other server as it was left
pub data MirrorsCalendars (upstream : List ℕ) (start end : ℤ) (before after : World)
    : Option UpstreamView → Status → Type 0 where
  -- the sync ended well, and what is kept was printed, which over a primary is what the files of
  -- one of its releases tell
  printed : (first last : UpstreamView) (s : MirrorState) (is : Status)
      → ReachesServer before.network after.network upstream first
      → (syncs : SyncsCalendars upstream empty_mirror s first last (Ok tt))
      → PrintsCalendars s start end before.outside.output after.outside.output is
      → after.outside.input ≡ before.outside.input
      → PrintsPrimary syncs.taken s start end before.outside.output after.outside.output is
      → MirrorsCalendars upstream start end before after (Some last) is
  -- it ended by a fault
  not_synced : (first last : UpstreamView) (s : MirrorState) (e : CalendarSyncFault) (is : Status)
      → ReachesServer before.network after.network upstream first
      → SyncsCalendars upstream empty_mirror s first last (Err e) → e ≢ fault.Sync sync.NoMemory
      → EndsWith status.NotSynced (fault_text e) before after is
      → MirrorsCalendars upstream start end before after (Some last) is
  -- the network failed before
  unreached : LeavesStreams before.outside after.outside
      → CalledTold before.network.content after.network.content
      → Rose before.network.faults after.network.faults
      → MirrorsCalendars upstream start end before after None status.NoNetwork
  -- memory ran out, at the call of the network
  unreached_starved : LeavesStreams before.outside after.outside
      → CalledTold before.network.content after.network.content
      → MirrorsCalendars upstream start end before after None status.NoMemory
  -- memory ran out before anything was printed
  starved : (first last : UpstreamView)
      → ReachesServer before.network after.network upstream first
      → LeavesStreams before.outside after.outside
      → MirrorsCalendars upstream start end before after (Some last) status.NoMemory
