-- The exchanges of one sync of calendars, and how it ends.
use Rattle.std.specs.Prelude.{◌≡◌, ℕ, ◌<◌, ◌≤◌, List, [], ◌∷◌, ◌++◌, Result, Ok, Err}
use Rattle.td_base.specs.Upstreams.{TellsMore, UpstreamView}
use Rattle.td_base.specs.Views.{Rose}
use Rattle.td_base.specs.declared.report.Ask.{Ask}
use Rattle.td_base.specs.declared.upstream.Exchange.{Exchange}
use Rattle.sync_core.specs.Mirrors.{MirrorState, ask_of}
use Rattle.mirror.specs.Shares.{SyncEnds, WalksOn, number_after}
use Rattle.mirror.specs.declared.limits.TheConstants.{MOST_ANSWER, MOST_LISTS}
use Rattle.mirror.specs.declared.sync_fault.SyncFault.{SyncFault}
use Rattle.mirror.specs.declared.sync_fault.SyncFault.TheVariants as sync_fault
use Rattle.vtimezone_reader.specs.declared.calendar_fault.CalendarFault.{CalendarFault}
use Rattle.calendar_mirror.specs.Judging.{IsJudged, MeansSound}
use Rattle.calendar_mirror.specs.declared.sync_fault.CalendarSyncFault.{CalendarSyncFault}
use Rattle.calendar_mirror.specs.declared.sync_fault.CalendarSyncFault.TheVariants as fault
use Rattle.calendar_mirror.specs.declared.judged_type.Judged.{Judged}
use Rattle.calendar_mirror.specs.declared.judged_type.Judged.TheVariants as judged

-- what any sync answers
abbrev pub of_sync : Result (Unit {0}) SyncFault → Result (Unit {0}) CalendarSyncFault
of_sync (Ok done) = Ok done
of_sync (Err f) = Err (fault.Sync f)

-- by how asks are written
module _ (written : Ask → List ℕ) where
  -- one more exchange, whose answer is judged so, after those that were taken
  pub record Judges (s t : MirrorState) (taken : List Exchange) (x : Exchange) (j : Judged)
      : Type 0 where
    pub lists : ℕ
    pub walks : WalksOn written MeansSound s taken 0 lists t
    pub few : lists < MOST_LISTS
    pub request : x.request ≡ written (ask_of t)
    pub most : x.most ≡ MOST_ANSWER
    pub is_judged : IsJudged (ask_of t) x.answer j

  -- how a sync ends: from a state to a state, by the exchanges whose answers were taken, and by
  -- those whose answers were not
  pub data CalendarSyncEnds (s t : MirrorState) (taken untaken : List Exchange)
      (result : Result (Unit {0}) CalendarSyncFault) : Type 0 where
    -- as any sync does
    ended : (r : Result (Unit {0}) SyncFault) → SyncEnds written MeansSound s t taken untaken r
        → result ≡ of_sync r → CalendarSyncEnds s t taken untaken result
    -- the last answer is no calendar
    bad_calendar : (x : Exchange) (f : CalendarFault) → Judges s t taken x (judged.BadCalendar f)
        → untaken ≡ x ∷ [] → result ≡ Err (fault.BadCalendar (number_after taken) f)
        → CalendarSyncEnds s t taken untaken result
    -- the last answer is the calendar of another zone
    wrong_name : (x : Exchange) → Judges s t taken x judged.WrongName → untaken ≡ x ∷ []
        → result ≡ Err (fault.WrongName (number_after taken))
        → CalendarSyncEnds s t taken untaken result

  -- what a sync does to a mirror and to an upstream
  pub record CalendarSyncs (s t : MirrorState) (old new : UpstreamView)
      (result : Result (Unit {0}) CalendarSyncFault) : Type 0 where
    pub taken : List Exchange
    pub untaken : List Exchange
    pub ends : CalendarSyncEnds s t taken untaken result
    pub told : TellsMore old.told new.told (taken ++ untaken)
    pub later : old.faults ≤ new.faults
    pub failed : result ≡ Err (fault.Sync sync_fault.UpstreamFault) → Rose old.faults new.faults
    pub steady : (result ≡ Err (fault.Sync sync_fault.UpstreamFault) → ⊥)
        → new.faults ≡ old.faults
