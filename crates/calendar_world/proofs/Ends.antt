-- A sync ends with no fault of an answer, where the last answer means what is heard of a primary of
-- calendars.
use Rattle.std.proofs.Common.{◌≡◌, ◌≤◌, ℕ, List, [], ◌∷◌, length, Result, sym, subst}
use Rattle.td_base.specs.declared.report.Ask.{Ask}
use Rattle.td_base.specs.declared.upstream.Exchange.{Exchange}
use Rattle.catalogue.specs.Histories.{IsHistory}
use Rattle.catalogue.specs.Releases.{ReleaseData}
use Rattle.zone_meaning.specs.Sound.{IsSound}
use Rattle.sync_core.specs.Mirrors.{MirrorState, ask_of}
use Rattle.sync_core.specs.declared.heard_type.Heard.{Heard}
use Rattle.mirror.specs.Understanding.{Means}
use Rattle.mirror.specs.Shares.{SyncEnds, WalksOn, failed, not_settled, refused, settled, starved, unreadable}
use Rattle.mirror.specs.declared.sync_fault.SyncFault.{SyncFault}
use Rattle.mirror.specs.declared.understood_type.Understood.TheVariants as understood
use Rattle.vtimezone_reader.specs.declared.calendar_fault.CalendarFault.{CalendarFault}
use Rattle.calendar_mirror.specs.CalendarShares.{CalendarSyncEnds, bad_calendar, ended, of_sync, wrong_name}
use Rattle.calendar_mirror.specs.Judging.{IsJudged, MeansSound, hears}
use Rattle.calendar_mirror.specs.declared.judged_type.Judged.{Judged}
use Rattle.calendar_mirror.specs.declared.judged_type.Judged.TheVariants as judged
use Rattle.calendar_mirror.specs.declared.sync_fault.CalendarSyncFault.{CalendarSyncFault}
use Rattle.sync_world.specs.Calendars.{IsCalendarHeardOver}
use Rattle.calendar_world.specs.Endings.{IsCalendarUnderstood}
use Rattle.calendar_world.proofs.Sound.{AreHeard, OneMeaning, judged_is}
use Rattle.calendar_world.proofs.Told.{Fits, IsRead, IsTold}

-- the answer of the exchange means what is heard of a primary with a history
pub record IsAnsweredBy (a : Ask) (x : Exchange) : Type 0 where
  pub over : List ReleaseData
  pub history : IsHistory IsSound over
  pub some : 1 ≤ length over
  pub heard : Heard
  pub is_heard : IsCalendarHeardOver over a heard
  pub is_meant : Means a x.answer (understood.Hears heard)

not_unreadable : (place : ℕ) (h : Heard) → judged.Sound (understood.Unreadable place) ≡ hears h → ⊥
not_unreadable place h e = absurd (cc)

not_refused : (status : ℕ) (h : Heard) → judged.Sound (understood.Refuses status) ≡ hears h → ⊥
not_refused status h e = absurd (cc)

pub not_bad : (f : CalendarFault) (h : Heard) → judged.BadCalendar f ≡ hears h → ⊥
not_bad f h e = absurd (cc)

pub not_wrong : (h : Heard) → judged.WrongName ≡ hears h → ⊥
not_wrong h e = absurd (cc)

module _ (fits : Fits) (read : IsRead) (told : IsTold) (heard_so : AreHeard) (one : OneMeaning) (written : Ask → List ℕ) (s t : MirrorState) where
  -- the exchange that is not taken is answered so, where those before it have come to a state
  abbrev pub LastIsAnswered : List Exchange → List Exchange → Type 0
  LastIsAnswered taken untaken =
      (x : Exchange) (lists : ℕ) → untaken ≡ x ∷ [] → WalksOn written MeansSound s taken 0 lists t → IsAnsweredBy (ask_of t) x

  judged_so : (x : Exchange) (k : IsAnsweredBy (ask_of t) x) (j : Judged) → IsJudged (ask_of t) x.answer j → j ≡ hears k.heard
  judged_so x k j judged = judged_is fits read told heard_so one k.over (ask_of t) k.heard x.answer j k.history k.some k.is_heard k.is_meant judged

  any_sync : (taken untaken : List Exchange) (r : Result (Unit {0}) SyncFault) → SyncEnds written MeansSound s t taken untaken r → LastIsAnswered taken untaken
      → IsCalendarUnderstood (of_sync r)
  any_sync taken untaken r (settled first last u h asks says is parts none ok) all =
      subst (λ (z : Result (Unit {0}) SyncFault). IsCalendarUnderstood (of_sync z)) (sym ok) tt
  any_sync taken untaken r (unreadable x place asks parts is) all =
      let k = all x asks.lists parts asks.walks in
      absurd (not_unreadable place k.heard (judged_so x k (judged.Sound (understood.Unreadable place)) asks.is_for.is_meant))
  any_sync taken untaken r (refused x status asks parts is) all =
      let k = all x asks.lists parts asks.walks in
      absurd (not_refused status k.heard (judged_so x k (judged.Sound (understood.Refuses status)) asks.is_for.is_meant))
  any_sync taken untaken r (not_settled walks none is) all = subst (λ (z : Result (Unit {0}) SyncFault). IsCalendarUnderstood (of_sync z)) (sym is) tt
  any_sync taken untaken r (failed lists walks few none is) all = subst (λ (z : Result (Unit {0}) SyncFault). IsCalendarUnderstood (of_sync z)) (sym is) tt
  any_sync taken untaken r (starved lists walks few parts is) all = subst (λ (z : Result (Unit {0}) SyncFault). IsCalendarUnderstood (of_sync z)) (sym is) tt

  pub ends_understood : (taken untaken : List Exchange) (result : Result (Unit {0}) CalendarSyncFault)
      → CalendarSyncEnds written s t taken untaken result → LastIsAnswered taken untaken → IsCalendarUnderstood result
  ends_understood taken untaken result (ended r ends is) all = subst IsCalendarUnderstood (sym is) (any_sync taken untaken r ends all)
  ends_understood taken untaken result (bad_calendar x f judges parts is) all =
      let k = all x judges.lists parts judges.walks in absurd (not_bad f k.heard (judged_so x k (judged.BadCalendar f) judges.is_judged))
  ends_understood taken untaken result (wrong_name x judges parts is) all =
      let k = all x judges.lists parts judges.walks in absurd (not_wrong k.heard (judged_so x k judged.WrongName judges.is_judged))
