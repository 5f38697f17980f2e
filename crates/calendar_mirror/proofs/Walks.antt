-- One more exchange after those that were taken, and how a sync of calendars ends there.
use Rattle.std.proofs.Common.{◌≡◌, ℕ, ◌<◌, ◌≤◌, List, [], ◌∷◌, Result, Ok, Err, refl, sym, ap, ◌∙◌, subst, arith}
use Rattle.td_base.specs.Upstreams.{Exchanges, UpstreamView}
use Rattle.td_base.specs.Views.{one_more}
use Rattle.td_base.specs.declared.report.Ask.{Ask}
use Rattle.td_base.specs.declared.upstream.Exchanged.TheVariants as exchanged
use Rattle.sync_core.specs.Mirrors.{MirrorState, ask_of}
use Rattle.mirror.specs.Shares.{Syncs}
use Rattle.mirror.specs.Turns.{HasWalked}
use Rattle.mirror.specs.declared.limits.TheConstants.{MOST_ANSWER, MOST_LISTS}
use Rattle.mirror.specs.declared.sync_fault.SyncFault.{SyncFault}
use Rattle.mirror.specs.declared.sync_fault.SyncFault.TheVariants as sync_fault
use Rattle.mirror.specs.declared.taken_type.Taken.{Taken}
use Rattle.mirror.specs.declared.taken_type.Taken.TheVariants as took
use Rattle.mirror.proofs.lemmas.Told.{tells_on}
use Rattle.mirror.proofs.lemmas.Walks as walk
use Rattle.calendar_mirror.specs.CalendarShares.{CalendarSyncEnds, CalendarSyncs, Judges, bad_calendar, ended, of_sync, wrong_name}
use Rattle.calendar_mirror.specs.CalendarTurns.{CalendarTurn, TakesCalendar, TurnsAway}
use Rattle.calendar_mirror.specs.Judging.{IsJudged, MeansSound}
use Rattle.calendar_mirror.specs.declared.sync_fault.CalendarSyncFault.{CalendarSyncFault}
use Rattle.calendar_mirror.specs.declared.sync_fault.CalendarSyncFault.TheVariants as fault
use Rattle.calendar_mirror.specs.declared.judged_type.Judged.{Judged}
use Rattle.calendar_mirror.specs.declared.judged_type.Judged.TheVariants as judged

-- ---- as any sync ends

same_fault : (f g : SyncFault) → fault.Sync f ≡ fault.Sync g → f ≡ g
same_fault f g e = cc

upstream_failed : (r : Result (Unit {0}) SyncFault) → of_sync r ≡ Err (fault.Sync sync_fault.UpstreamFault) → r ≡ Err sync_fault.UpstreamFault
upstream_failed (Ok done) e = absurd (cc)
upstream_failed (Err f) e =
    let same : fault.Sync f ≡ fault.Sync sync_fault.UpstreamFault = cc in ap Err (same_fault f sync_fault.UpstreamFault same)

module _ (written : Ask → List ℕ) (s t : MirrorState) (old new : UpstreamView) where
  pub as_any : (r : Result (Unit {0}) SyncFault) → Syncs written MeansSound s t old new r → CalendarSyncs written s t old new (of_sync r)
  as_any r k = record {
    taken = k.taken;
    untaken = k.untaken;
    ends = ended r k.ends refl;
    told = k.told;
    later = k.later;
    failed = λ e. k.failed (upstream_failed r e);
    steady = λ not. k.steady (λ e. not (ap of_sync e));
  }

-- ---- ends

module _ (written : Ask → List ℕ) (s t u : MirrorState) (old now new : UpstreamView) (lists asked number : ℕ)
    (w : HasWalked written MeansSound s t old now lists asked) (few : lists < MOST_LISTS) (next : number ≡ one_more asked) where
  judges : (j : Judged) (k : TurnsAway written t u now new j) → Judges written s u w.taken k.exchange j
  judges j k =
      subst (λ v. Judges written s v w.taken k.exchange j) (sym k.state)
      (record { lists = lists; walks = w.walks; few = few; request = k.request; most = k.most; is_judged = k.is_judged })

  away_syncs : (j : Judged) (k : TurnsAway written t u now new j) (result : Result (Unit {0}) CalendarSyncFault)
      → CalendarSyncEnds written s u w.taken (k.exchange ∷ []) result → (result ≡ Err (fault.Sync sync_fault.UpstreamFault) → ⊥)
      → CalendarSyncs written s u old new result
  away_syncs j k result ends other = record {
    taken = w.taken;
    untaken = k.exchange ∷ [];
    ends = ends;
    told = tells_on old.told now.told new.told w.taken (k.exchange ∷ []) w.told k.told;
    later = omega (arith, w.steady, k.steady);
    failed = λ e. absurd (other e);
    steady = λ not. k.steady ∙ w.steady;
  }

  counted : number ≡ Rattle.mirror.specs.Shares.number_after w.taken
  counted = walk.number_is written MeansSound s t u old now new lists asked number w few next

  no_upstream_fault : (n : ℕ) (f : Rattle.vtimezone_reader.specs.declared.calendar_fault.CalendarFault.CalendarFault) (r : Result (Unit {0}) CalendarSyncFault)
      → r ≡ Err (fault.BadCalendar n f) → r ≡ Err (fault.Sync sync_fault.UpstreamFault) → ⊥
  no_upstream_fault n f r is e = absurd (cc)

  no_upstream_name : (n : ℕ) (r : Result (Unit {0}) CalendarSyncFault) → r ≡ Err (fault.WrongName n) → r ≡ Err (fault.Sync sync_fault.UpstreamFault) → ⊥
  no_upstream_name n r is e = absurd (cc)

  pub fault_syncs : (e : CalendarSyncFault) → CalendarTurn written t u now new number (Err e) → CalendarSyncs written s u old new (Err e)
  fault_syncs (fault.Sync f) o =
      as_any written s u old new (Err f) (walk.fault_syncs written MeansSound s t u old now new lists asked number w few next f o)
  fault_syncs (fault.BadCalendar n f) o =
      away_syncs (judged.BadCalendar f) o.0 (Err (fault.BadCalendar n f))
      (bad_calendar o.0.exchange f (judges (judged.BadCalendar f) o.0) refl (ap (λ m. Err (fault.BadCalendar m f)) (o.1 ∙ counted)))
      (no_upstream_fault n f (Err (fault.BadCalendar n f)) refl)
  fault_syncs (fault.WrongName n) o =
      away_syncs judged.WrongName o.0 (Err (fault.WrongName n))
      (wrong_name o.0.exchange (judges judged.WrongName o.0) refl (ap (λ m. Err (fault.WrongName m)) (o.1 ∙ counted)))
      (no_upstream_name n (Err (fault.WrongName n)) refl)

  pub syncs_at : (k : Taken) → CalendarTurn written t u now new number (Ok k) → k ≡ took.Settled → CalendarSyncs written s u old new (Ok tt)
  syncs_at k o is =
      as_any written s u old new (Ok tt) (walk.syncs_at written MeansSound s t u old now new lists asked number w few next k o is)

-- ---- the last

pub unsettled : (written : Ask → List ℕ) (s t : MirrorState) (old now : UpstreamView) (lists asked : ℕ)
    → HasWalked written MeansSound s t old now lists asked → MOST_LISTS ≤ lists
    → CalendarSyncs written s t old now (Err (fault.Sync (sync_fault.NotSettled MOST_LISTS)))
unsettled written s t old now lists asked w all =
    as_any written s t old now (Err (sync_fault.NotSettled MOST_LISTS)) (walk.unsettled written MeansSound s t old now lists asked w all)

-- ---- one exchange

module _ (written : Ask → List ℕ) (s t : MirrorState) (old new : UpstreamView) (a : Ask) (request answer : List ℕ) (number : ℕ) (same : a ≡ ask_of s)
    (is : request ≡ written a) (e : Exchanges old new request MOST_ANSWER (exchanged.Got answer)) where
  turned_away : (j : Judged) → IsJudged a answer j → t ≡ s → TurnsAway written s t old new j
  turned_away j k state = record {
    exchange = record { request = request; most = MOST_ANSWER; answer = answer };
    request = is ∙ ap written same;
    most = refl;
    is_judged = subst (λ b. IsJudged b answer j) same k;
    state = state;
    told = e.told;
    steady = e.steady refl;
  }

  pub got_turn : (r : Result Taken CalendarSyncFault) → TakesCalendar a s t answer number r → CalendarTurn written s t old new number r
  got_turn (Ok k) takes = walk.got_turn written MeansSound s t old new a request answer number (Ok k) same is e takes
  got_turn (Err (fault.Sync f)) takes = walk.got_turn written MeansSound s t old new a request answer number (Err f) same is e takes
  got_turn (Err (fault.BadCalendar n f)) takes = (turned_away (judged.BadCalendar f) takes.0 takes.2, takes.1)
  got_turn (Err (fault.WrongName n)) takes = (turned_away judged.WrongName takes.0 takes.2, takes.1)
