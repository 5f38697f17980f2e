-- How the run of a mirror of calendars ends.
use Rattle.std.proofs.Common.{◌≡◌, ◌≢◌, ℕ, ◌≤◌, List, [], inl, inr, Option, None, Some, Ok, Err, refl, sym, subst, arith}
use Rattle.std.specs.Prelude.{ℤ}
use Rattle.td_base.specs.DoorViews.{NetworkView}
use Rattle.td_base.specs.Upstreams.{Reaches, UpstreamView}
use Rattle.td_base.specs.Views.{LaterSink, SinkView, SourceView, StoreView}
use Rattle.td_base.specs.declared.network.Made.TheVariants as made
use Rattle.td_base.specs.declared.transfer.Written.TheVariants as written
use Rattle.td_base.proofs.lemmas.LaterLemmas.{source_refl, store_refl, writes_all_later}
use Rattle.mirror.specs.declared.sync_fault.SyncFault.TheVariants as sync
use Rattle.calendar_mirror.specs.FaultText.{fault_text}
use Rattle.calendar_mirror.specs.declared.sync_fault.CalendarSyncFault.{CalendarSyncFault}
use Rattle.calendar_mirror.specs.declared.sync_fault.CalendarSyncFault.TheVariants as fault
use Rattle.sync_core.specs.Mirrors.{MirrorState, empty_mirror}
use Rattle.zone_meaning.specs.Observed.{IsRange}
use Rattle.run_ends.specs.Commands.{calmirror}
use Rattle.run_ends.specs.Outside.{outside, world}
use Rattle.run_ends.specs.Printing.{refused_line}
use Rattle.run_ends.specs.Running.{RunEndsLater}
use Rattle.run_ends.specs.Running.CalendarMirroring.{MirrorsCalendars, PrintsCalendars, SyncsCalendars, all, cut, unreached}
use Rattle.run_ends.specs.Running.CalendarMirroring.{unreached_starved}
use Rattle.run_ends.specs.Running.CalendarMirroring as page
use Rattle.run_ends.specs.Running.Mirroring.{ReachesServer}
use Rattle.plain_commands.specs.CalendarSteps.{RefusesCalendars, SyncedEnds, SyncsOnce}
use Rattle.plain_commands.specs.CalendarSteps as steps
use Rattle.run_ends.specs.Tells.{Tells}
use Rattle.run_ends.specs.declared.status.Status.{Status}
use Rattle.run_ends.specs.declared.status.Status.TheVariants as status
use Rattle.run_ends.proofs.lemmas.Endings.{left_sink, printed_later}
use Rattle.plain_commands.proofs.PrimaryLines.{CalendarLaws, primary_printed}
use Rattle.run_ends.proofs.lemmas.Reaching.{not_called, not_told, reaches_server}

-- ---- a sync

-- a sync that ended by a fault ends a run by its text, unless memory ran out
pub refuses_calendars : (f : CalendarSyncFault) (old new : SinkView) (is : Status) → f ≢ fault.Sync sync.NoMemory
    → Tells status.NotSynced (refused_line (fault_text f)) old new is → RefusesCalendars f old new is
refuses_calendars (fault.Sync sync.NoMemory) old new is memory tells = absurd (memory refl)
refuses_calendars f old new is memory tells = tells

module _ (host : List ℕ) (start end : ℤ) (first last : UpstreamView) where
  calendars_later : (s : MirrorState) (old new : SinkView) (is : Status) → PrintsCalendars s start end old new is → LaterSink old new
  calendars_later s old new is (all lines rising tell writes) = writes_all_later old new lines written.Whole writes
  calendars_later s old new is (cut zones rest lines are tell writes) = writes_all_later old new lines written.Cut writes
  calendars_later s old new is (page.part zones rest lines are tell writes) = writes_all_later old new lines written.Whole writes

  pub synced : (s : MirrorState) (old new : SinkView) (is : Status) → SyncsCalendars host empty_mirror s first last (Ok tt)
      → PrintsCalendars s start end old new is → SyncsOnce host start end first last old new is
  synced s old new is h prints = record { ends = steps.printed s is h prints; later = calendars_later s old new is prints }

  starved : (old new : SinkView) (is : Status) → is ≡ status.NoMemory → new ≡ old → SyncsOnce host start end first last old new is
  starved old new is same left =
      subst (λ x. SyncsOnce host start end first last old new x) (sym same) (record { ends = steps.starved left; later = left_sink old new left })

  told : (s : MirrorState) (e : CalendarSyncFault) (old new : SinkView) (is : Status) → SyncsCalendars host empty_mirror s first last (Err e)
      → e ≢ fault.Sync sync.NoMemory → Tells status.NotSynced (refused_line (fault_text e)) old new is → SyncsOnce host start end first last old new is
  told s e old new is h some (inl printed) = record {
    ends = steps.not_synced s e is h some printed;
    later = printed_later status.NotSynced is (refused_line (fault_text e)) old new printed;
  }
  told s e old new is h some (inr left) = starved old new is left.0 left.1

  pub not_synced : (s : MirrorState) (e : CalendarSyncFault) (old new : SinkView) (is : Status) → SyncsCalendars host empty_mirror s first last (Err e)
      → RefusesCalendars e old new is → SyncsOnce host start end first last old new is
  not_synced s (fault.Sync sync.NoMemory) old new is h left = starved old new is left.0 left.1
  not_synced s e old new is h tells = told s e old new is h (λ none. cc) tells

-- ---- a whole run

module _ (upstream : List ℕ) (start end : ℤ) (store : StoreView) (i : SourceView) (o : SinkView) (n : NetworkView) (r : ℕ) where
  ends_by : (first last : UpstreamView) (p : SinkView) (m : NetworkView) (is : Status) → ReachesServer n m upstream first
      → CalendarLaws → IsRange start end → SyncedEnds upstream start end first last o p is
      → MirrorsCalendars upstream start end (world (outside store i o) n r) (world (outside store i p) m r) (Some last) is
  ends_by first last p m is reaches laws range (steps.printed s end_is h prints) =
      page.printed first last s end_is reaches h prints refl
      (primary_printed laws start end range upstream s h.taken h.untaken o p end_is h.ends prints)
  ends_by first last p m is reaches laws range (steps.not_synced s e end_is h some line) =
      page.not_synced first last s e end_is reaches h some (record { printed = line; input = refl; spawner = refl })
  ends_by first last p m is reaches laws range (steps.starved left) = page.starved first last reaches (refl, left)

  pub ran : (p : SinkView) (m : NetworkView) (up : Option UpstreamView) (is : Status) → n.faults ≤ m.faults → LaterSink o p
      → MirrorsCalendars upstream start end (world (outside store i o) n r) (world (outside store i p) m r) up is
      → RunEndsLater (Some (calmirror upstream start end)) (world (outside store i o) n r) (world (outside store i p) m r) [] up is
  ran p m up is later sink h = record {
    ends = (h, refl, refl, refl);
    later = record {
      outside = record { store = store_refl store; input = source_refl i; output = sink };
      network = later;
      spawner = omega arith;
    };
  }

  pub ran_synced : {U : Type 0} (seen : U → UpstreamView) (p : SinkView) (m : NetworkView) (reached server : U) (is : Status)
      → Reaches seen n m upstream (made.Given reached) → SyncsOnce upstream start end (seen reached) (seen server) o p is → CalendarLaws → IsRange start end
      → RunEndsLater (Some (calmirror upstream start end)) (world (outside store i o) n r) (world (outside store i p) m r) [] (Some (seen server)) is
  ran_synced seen p m reached server is reaches h laws range =
      ran p m (Some (seen server)) is reaches.later h.later
      (ends_by (seen reached) (seen server) p m is (reaches_server seen n m upstream reached reaches) laws range h.ends)

  pub unreached_ends : {U : Type 0} (seen : U → UpstreamView) (m : NetworkView) → Reaches seen n m upstream made.Failed
      → MirrorsCalendars upstream start end (world (outside store i o) n r) (world (outside store i o) m r) None status.NoNetwork
  unreached_ends seen m h = unreached (refl, refl) (not_told seen n.content m.content upstream h.told) (h.failed refl)

  pub starved_ends : {U : Type 0} (seen : U → UpstreamView) (m : NetworkView) → Reaches seen n m upstream made.NoMemory
      → MirrorsCalendars upstream start end (world (outside store i o) n r) (world (outside store i o) m r) None status.NoMemory
  starved_ends seen m h = unreached_starved (refl, refl) (not_called seen n.content m.content upstream h.told)
