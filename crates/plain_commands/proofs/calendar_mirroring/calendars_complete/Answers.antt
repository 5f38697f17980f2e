use Rattle.std.proofs.Common.{◌≡◌, ◌≢◌, ℕ, List, ◌++◌, Option, Some, Result, Err, refl}
use Rattle.std.specs.Prelude.{ℤ}
use Rattle.td_base.specs.DoorViews.{DoorView}
use Rattle.td_base.specs.Upstreams.{IsNewUpstream, UpstreamView}
use Rattle.td_base.specs.Views.{Rose, SinkView}
use Rattle.td_base.specs.declared.upstream.Exchange.{Exchange}
use Rattle.http_client.specs.CalendarRequests.{calendar_request_text}
use Rattle.mirror.specs.declared.sync_fault.SyncFault.TheVariants as sync
use Rattle.calendar_mirror.specs.CalendarShares.{CalendarSyncEnds}
use Rattle.calendar_mirror.specs.declared.sync_fault.CalendarSyncFault.{CalendarSyncFault}
use Rattle.calendar_mirror.specs.declared.sync_fault.CalendarSyncFault.TheVariants as calendar
use Rattle.sync_core.specs.Mirrors.{MirrorState, empty_mirror}
use Rattle.mirror_world.specs.Settling.{SettlesSecond}
use Rattle.calendar_world.specs.Endings.{IsCalendarAnsweredOver, IsSettled as IsCalendarSettled}
use Rattle.run_ends.specs.Completing.{IsComplete, NoneRose, PrimarySettles, TellsFirst}
use Rattle.run_ends.specs.Outside.{World}
use Rattle.run_ends.specs.Running.CalendarMirroring.{MirrorsCalendars, PrintsCalendars, SyncsCalendars}
use Rattle.run_ends.specs.Running.CalendarMirroring as calendars
use Rattle.run_ends.specs.declared.status.Status.{Status}
use Rattle.run_ends.proofs.lemmas.Completing.{done, memory, parts_told, never_failed}
use Rattle.plain_commands.proofs.calendar_mirroring.calendars_complete.Goals as goal

abbrev pub CalendarsSettle : Type 0
CalendarsSettle =
    (host : List ℕ) (t : MirrorState) (taken untaken xs more : List Exchange) (result : Result (Unit {0}) CalendarSyncFault)
    → SettlesSecond IsCalendarAnsweredOver xs → taken ++ untaken ≡ xs ++ more
    → CalendarSyncEnds (calendar_request_text host) empty_mirror t taken untaken result → IsCalendarSettled result

module _ (settle : CalendarsSettle) (upstream : List ℕ) (first last : UpstreamView) (xs : List Exchange) (k : TellsFirst (Some last) xs)
    (over : SettlesSecond IsCalendarAnsweredOver xs) (new : IsNewUpstream first) (none : last.faults ≡ 0) where
  never_told : (s : MirrorState) (e : CalendarSyncFault) → SyncsCalendars upstream empty_mirror s first last (Err e) → e ≢ calendar.Sync sync.NoMemory → ⊥
  never_told s e h known =
      by e h known
      (settle upstream s h.taken h.untaken xs k.more (Err e) over (parts_told first last xs (h.taken ++ h.untaken) k new h.told) h.ends)
    where
      by : (f : CalendarSyncFault) → SyncsCalendars upstream empty_mirror s first last (Err f) → f ≢ calendar.Sync sync.NoMemory
          → IsCalendarSettled (Err f) → ⊥
      by (calendar.Sync sync.NoMemory) g some is = some refl
      by (calendar.Sync sync.UpstreamFault) g some is = never_failed first last new none (g.failed refl)
      by (calendar.Sync (sync.BadAnswer n place bytes)) g some is = is
      by (calendar.Sync (sync.Refused n number)) g some is = is
      by (calendar.Sync (sync.NotSettled n)) g some is = is
      by (calendar.BadCalendar n f) g some is = is
      by (calendar.WrongName n) g some is = is

printed_complete : (s : MirrorState) (start end : ℤ) (old new : SinkView) (is : Status) → PrintsCalendars s start end old new is
    → (Rose old.faults new.faults → ⊥) → IsComplete is
printed_complete s start end old new is (calendars.all lines rising tell writes) none = done
printed_complete s start end old new is (calendars.cut zones rest lines are tell writes) none = absurd (none (writes.failed refl))
printed_complete s start end old new is (calendars.part zones rest lines are tell writes) none = memory

ends_complete : CalendarsSettle → (upstream : List ℕ) (start end : ℤ) (before after : World) (doors : List DoorView) (up : Option UpstreamView) (is : Status)
    → MirrorsCalendars upstream start end before after up is → NoneRose before after doors up → PrimarySettles IsCalendarAnsweredOver up → IsComplete is
ends_complete settle upstream start end before after doors up is (calendars.printed first last s how reaches syncs prints input primary) none k =
    printed_complete s start end before.outside.output after.outside.output is prints none.output
ends_complete settle upstream start end before after doors up is (calendars.not_synced first last s e how reaches syncs some ends) none k =
    absurd (never_told settle upstream first last k.exchanges k.first k.settles reaches.new none.followed s e syncs some)
ends_complete settle upstream start end before after doors up is (calendars.unreached left called rose) none k = absurd (none.network rose)
ends_complete settle upstream start end before after doors up is (calendars.unreached_starved left called) none k = memory
ends_complete settle upstream start end before after doors up is (calendars.starved first last reaches left) none k = memory

pub returns : goal.returns
returns c = λ upstream start last before after doors up is h none k.
    ends_complete c.syncs_settle.ensures upstream start last before after doors up is h.0 none k
