-- What the calls below `calmirror` come to.
use Rattle.std.specs.Prelude.{◌≡◌, ◌≢◌, ℕ, List, ◌++◌, ℤ, Result, Ok, Err}
use Rattle.td_base.specs.Transfer.{WritesAll}
use Rattle.td_base.specs.Upstreams.{UpstreamView}
use Rattle.td_base.specs.Views.{LaterSink, SinkView}
use Rattle.td_base.specs.declared.transfer.Written.{Written}
use Rattle.td_base.specs.declared.transfer.Written.TheVariants as written
use Rattle.json_forms.specs.declared.zone_list.ListZone.{ListZone}
use Rattle.mirror.specs.declared.sync_fault.SyncFault.TheVariants as sync
use Rattle.calendar_mirror.specs.FaultText.{fault_text}
use Rattle.calendar_mirror.specs.declared.sync_fault.CalendarSyncFault.{CalendarSyncFault}
use Rattle.calendar_mirror.specs.declared.sync_fault.CalendarSyncFault.TheVariants as fault
use Rattle.sync_core.specs.Mirrors.{MirrorState, ZoneFile, empty_mirror}
use Rattle.vtimezone_reader.specs.declared.calendar_type.Calendar.{Calendar}
use Rattle.run_ends.specs.Printing.{Printed, refused_line}
use Rattle.run_ends.specs.Running.CalendarMirroring.{CalendarTells, PrintsCalendars}
use Rattle.run_ends.specs.Running.CalendarMirroring.{SyncsCalendars, ZoneTells, ZonesTell}
use Rattle.run_ends.specs.Tells.{IsLeft, Tells}
use Rattle.run_ends.specs.declared.status.Status.{Status}
use Rattle.run_ends.specs.declared.status.Status.TheVariants as status

-- what a calendar tells of a range is appended
pub record AppendsCalendar (calendar : Calendar) (start end : ℤ) (old new : List ℕ)
    : Type 0 where
  pub told : List ℕ
  pub tells : CalendarTells calendar start end told
  pub new_is : new ≡ old ++ told

-- the lines of a zone were printed, whole or cut by a failed write
pub record ZonePrinted (files : List ZoneFile) (start end : ℤ) (zone : ListZone)
    (old new : SinkView) (how : Written) : Type 0 where
  pub lines : List ℕ
  pub tells : ZoneTells files start end zone lines
  pub writes : WritesAll old new lines how

-- the same, or memory ran out before
abbrev pub PrintsZone : List ZoneFile → ℤ → ℤ → ListZone → SinkView → SinkView
    → Result (Unit {0}) Status → Type 0
PrintsZone files start end zone old new (Ok done) =
    ZonePrinted files start end zone old new written.Whole
PrintsZone files start end zone old new (Err status.NotWritten) =
    ZonePrinted files start end zone old new written.Cut
PrintsZone files start end zone old new (Err status.NoMemory) = new ≡ old
PrintsZone files start end zone old new (Err is) = ⊥

-- the lines of the first zones were printed
pub record PrintedTo (files : List ZoneFile) (start end : ℤ) (zones : List ListZone)
    (old new : SinkView) : Type 0 where
  pub lines : List ℕ
  pub tell : ZonesTell files start end zones lines
  pub writes : WritesAll old new lines written.Whole

-- a sync of calendars that ended by a fault ends a run
abbrev pub RefusesCalendars : CalendarSyncFault → SinkView → SinkView → Status → Type 0
RefusesCalendars (fault.Sync sync.NoMemory) old new is = IsLeft old new is status.NoMemory
RefusesCalendars f old new is = Tells status.NotSynced (refused_line (fault_text f)) old new is

-- the server was synced with, and what is kept was printed, or the sync's fault
pub data SyncedEnds (host : List ℕ) (start end : ℤ) (first last : UpstreamView)
    (old new : SinkView) : Status → Type 0 where
  printed : (s : MirrorState) (is : Status) → SyncsCalendars host empty_mirror s first last (Ok tt)
      → PrintsCalendars s start end old new is → SyncedEnds host start end first last old new is
  not_synced : (s : MirrorState) (e : CalendarSyncFault) (is : Status)
      → SyncsCalendars host empty_mirror s first last (Err e) → e ≢ fault.Sync sync.NoMemory
      → Printed status.NotSynced (refused_line (fault_text e)) old new is
      → SyncedEnds host start end first last old new is
  starved : new ≡ old → SyncedEnds host start end first last old new status.NoMemory

pub record SyncsOnce (host : List ℕ) (start end : ℤ) (first last : UpstreamView)
    (old new : SinkView) (is : Status) : Type 0 where
  pub ends : SyncedEnds host start end first last old new is
  pub later : LaterSink old new
