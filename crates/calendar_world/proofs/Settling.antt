-- A sync over the answers of a world, of which the second to a list is an empty list of changes.
use Rattle.std.proofs.Common.{◌≡◌, ℕ, ◌≤◌, None, Some, List, [], ◌∷◌, ◌++◌, length, Result, Ok, Err, refl, sym, ◌∙◌, subst}
use Rattle.td_base.specs.declared.report.Ask.{Ask}
use Rattle.td_base.specs.declared.report.Ask.TheVariants as ask
use Rattle.td_base.specs.declared.upstream.Exchange.{Exchange}
use Rattle.catalogue.specs.Histories.{IsHistory}
use Rattle.catalogue.specs.Releases.{ReleaseData}
use Rattle.negotiate.specs.declared.choosing.Format.TheVariants.{Calendar}
use Rattle.zone_meaning.specs.Sound.{IsSound}
use Rattle.sync_core.specs.Mirrors.{MirrorState, ask_of, empty_mirror}
use Rattle.sync_core.specs.Steps.{sync_step}
use Rattle.sync_core.specs.declared.heard_type.Heard.{Heard}
use Rattle.sync_core.specs.declared.heard_type.Heard.TheVariants as heard
use Rattle.mirror.specs.Understanding.{Means}
use Rattle.mirror.specs.declared.sync_fault.SyncFault.{SyncFault}
use Rattle.mirror.specs.declared.sync_fault.SyncFault.TheVariants as fault
use Rattle.mirror.specs.declared.understood_type.Understood.TheVariants as understood
use Rattle.calendar_mirror.specs.CalendarShares.{CalendarSyncEnds, bad_calendar, ended, of_sync, wrong_name}
use Rattle.calendar_mirror.specs.Judging.{IsJudged, MeansSound, hears, judged_by}
use Rattle.calendar_mirror.specs.declared.judged_type.Judged.{Judged}
use Rattle.calendar_mirror.specs.declared.judged_type.Judged.TheVariants as judged
use Rattle.calendar_mirror.specs.declared.sync_fault.CalendarSyncFault.{CalendarSyncFault}
use Rattle.sync_world.specs.Calendars.{IsCalendarHeardOver, calendar_service}
use Rattle.sync_world.specs.Worlds as world
use Rattle.sync_world.specs.Worlds.{IsAnswer, Leads, Sent, SyncWorld, WorldStep, world_begun}
use Rattle.mirror_world.specs.Follows.{FollowsFrom}
use Rattle.mirror_world.specs.Logs.{Brings, Logs}
use Rattle.mirror_world.specs.Settling.{IsEmptyOrLater, IsSettled as IsSyncSettled, NextListIsEmpty, SecondListIsEmpty, SettlesSecond}
use Rattle.mirror_world.proofs.lemmas.Settling.{Awaits, is_settled, second_not_past}
use Rattle.mirror_world.proofs.lemmas.Worlds.{answer_of, leads_on, step_led}
use Rattle.calendar_world.specs.Endings.{IsCalendarAnsweredOver, IsSettled}
use Rattle.calendar_world.proofs.Ends.{not_bad, not_wrong}
use Rattle.calendar_world.proofs.Following.{HeardInBytes, OneJudgement, WorldsHold, follows, one_sound, sound_means}
use Rattle.calendar_world.proofs.Sound.{OneMeaning}

-- an answer that is heard in a world is taken as it is
abbrev pub AnswersSound : Type 0
AnswersSound =
    (H : List ReleaseData) (steps : List WorldStep) (w v : SyncWorld) (n : ℕ) (sent : Sent) (h : Heard) (answer : List ℕ) (j : Judged)
    → IsHistory IsSound H → 1 ≤ length H → Leads IsSound IsCalendarHeardOver (world_begun H) steps w → IsAnswer IsCalendarHeardOver w n v sent h
    → Means sent.ask answer (understood.Hears h) → IsJudged sent.ask answer j → j ≡ hears h

-- ---- what the answers of a world mean is sound

module _ (law : AnswersSound) (heard_so : HeardInBytes) (H : List ReleaseData) (history : IsHistory IsSound H) (some : 1 ≤ length H) where
  heard_over : (G : List ReleaseData) (a : Ask) (x : Exchange) (h : Heard) → IsCalendarAnsweredOver G a x → Means a x.answer (understood.Hears h)
      → IsCalendarHeardOver G a h
  heard_over G a x h = heard_so Calendar G a x h

  brings_sound : (made : List WorldStep) (w : SyncWorld) (step : WorldStep) (now : List Exchange) (u : SyncWorld)
      → Leads IsSound IsCalendarHeardOver (world_begun H) made w → Brings IsSound IsCalendarAnsweredOver Means w step now u
      → Brings IsSound IsCalendarAnsweredOver MeansSound w step now u
  brings_sound made w (world.install r) now u leads is = is
  brings_sound made w world.asks now u leads is = is
  brings_sound made w (world.answer n) now u leads is =
      let r = is.2 in
      let m = r.is_meant in
      let a = r.sent.ask in
      let answer = answer_of IsSound IsCalendarAnsweredOver Means IsCalendarHeardOver heard_over w n is.0 u r in
      let j = judged_by a (understood.Hears r.heard) in
      let same : j ≡ hears r.heard =
      law H made w u n r.sent r.heard (is.0).answer j history some leads answer m (understood.Hears r.heard, m, refl) in (
        is.0,
        is.1,
        record {
          sent = r.sent;
          heard = r.heard;
          answered = r.answered;
          is_meant = (understood.Hears r.heard, m, sym same);
          is_taken = r.is_taken;
        },
      )
  brings_sound made w world.refuse_token now u leads is =
      let r = is.2 in (
        is.0,
        is.1,
        record {
          since = r.since;
          token = r.token;
          is_refused = r.is_refused;
          is_meant = (understood.Hears heard.BadToken, r.is_meant, refl);
        },
      )
  brings_sound made w world.lose now u leads is = is
  brings_sound made w world.restart now u leads is = is
  brings_sound made w world.restart_empty now u leads is = absurd is

  logs_sound : (steps made : List WorldStep) (w : SyncWorld) (xs : List Exchange) (v : SyncWorld) → Leads IsSound IsCalendarHeardOver (world_begun H) made w
      → Logs IsSound IsCalendarAnsweredOver Means w steps xs v → Logs IsSound IsCalendarAnsweredOver MeansSound w steps xs v
  logs_sound [] made w xs v leads is = is
  logs_sound (step ∷ steps) made w xs v leads is =
      let on = leads_on IsSound IsCalendarHeardOver (world_begun H) made w step is.0 leads
      (step_led IsSound IsCalendarAnsweredOver Means IsCalendarHeardOver heard_over w step is.1 is.0 is.4) in
      (is.0, is.1, is.2, is.3, brings_sound made w step is.1 is.0 leads is.4, logs_sound steps (made ++ step ∷ []) is.0 is.2 v on is.5)

  pub begun_sound : (steps : List WorldStep) (xs : List Exchange) (v : SyncWorld) → Logs IsSound IsCalendarAnsweredOver Means (world_begun H) steps xs v
      → Logs IsSound IsCalendarAnsweredOver MeansSound (world_begun H) steps xs v
  begun_sound steps xs v logs = logs_sound steps [] (world_begun H) xs v refl logs

-- ---- so is what is heard up to the empty list

later_as : (a : Ask) (h : Heard) (later other : Type 0) → (later → other) → IsEmptyOrLater a h later → IsEmptyOrLater a h other
later_as (ask.List None) h later other f k = k
later_as (ask.List (Some token)) h later other f k = k
later_as (ask.Get name) h later other f k = f k

module _ (one : OneMeaning) (G : List ReleaseData) where
  same_heard : (a : Ask) (x : Exchange) (h k : Heard) → MeansSound a x.answer (understood.Hears h) → Means a x.answer (understood.Hears k) → h ≡ k
  same_heard a x h k p q =
      let is : understood.Hears h ≡ understood.Hears k = one a x.answer (understood.Hears h) (understood.Hears k) (sound_means a x.answer h p) q in
      cc

  next_sound : (xs : List Exchange) (least : ℕ) (s v : MirrorState) → FollowsFrom IsCalendarAnsweredOver MeansSound calendar_service G least s xs v
      → NextListIsEmpty Means s xs → NextListIsEmpty MeansSound s xs
  next_sound [] least s v f k = k
  next_sound (x ∷ xs) least s v f k =
      let same : f.1 ≡ k.0 = same_heard (ask_of s) x f.1 k.0 (f.4).is_meant k.1 in
      let on : FollowsFrom IsCalendarAnsweredOver MeansSound calendar_service G f.0 (sync_step s k.0) xs v =
      subst (λ h. FollowsFrom IsCalendarAnsweredOver MeansSound calendar_service G f.0 (sync_step s h) xs v) same f.5 in (
        k.0,
        subst (λ h. MeansSound (ask_of s) x.answer (understood.Hears h)) same (f.4).is_meant,
        later_as (ask_of s) k.0 (NextListIsEmpty Means (sync_step s k.0) xs) (NextListIsEmpty MeansSound (sync_step s k.0) xs)
            (next_sound xs f.0 (sync_step s k.0) v on) k.2,
      )

  pub second_sound : (xs : List Exchange) (least : ℕ) (v : MirrorState)
      → FollowsFrom IsCalendarAnsweredOver MeansSound calendar_service G least empty_mirror xs v → SecondListIsEmpty Means xs
      → SecondListIsEmpty MeansSound xs
  second_sound xs least v follows k =
      let f = subst (λ l. FollowsFrom IsCalendarAnsweredOver MeansSound calendar_service G least empty_mirror l v) k.parts follows in
      let same : f.1 ≡ k.heard = same_heard (ask_of empty_mirror) k.first f.1 k.heard (f.4).is_meant k.is_meant in
      let on = subst (λ h. FollowsFrom IsCalendarAnsweredOver MeansSound calendar_service G f.0 (sync_step empty_mirror h) k.later v) same f.5 in
      record {
        first = k.first;
        later = k.later;
        heard = k.heard;
        parts = k.parts;
        is_meant = subst (λ h. MeansSound (ask_of empty_mirror) (k.first).answer (understood.Hears h)) same (f.4).is_meant;
        second = next_sound k.later f.0 (sync_step empty_mirror k.heard) v on k.second;
      }

-- ---- how a sync over them ends

any_settled : (r : Result (Unit {0}) SyncFault) → IsSyncSettled r → IsSettled (of_sync r)
any_settled (Ok done) k = tt
any_settled (Err fault.UpstreamFault) k = tt
any_settled (Err fault.NoMemory) k = tt
any_settled (Err (fault.BadAnswer exchange place answer)) k = absurd k
any_settled (Err (fault.Refused exchange status)) k = absurd k
any_settled (Err (fault.NotSettled lists)) k = absurd k

same_first : (x y : Exchange) (ys : List Exchange) → x ∷ [] ≡ y ∷ ys → x ≡ y
same_first x y ys e = cc

module _ (one : OneJudgement) (written : Ask → List ℕ) (xs more : List Exchange) (t : MirrorState) (taken left : List Exchange)
    (k : SecondListIsEmpty MeansSound xs) (parts : taken ++ left ≡ xs ++ more) where
  -- the exchange that is left is judged as what is heard
  judged_so : (x : Exchange) (j : Judged) (next : Awaits written MeansSound (one_sound one) t left) → left ≡ x ∷ [] → IsJudged (ask_of t) x.answer j
      → j ≡ hears next.heard
  judged_so x j next is judges =
      let same : x ≡ next.next = same_first x next.next next.rest (sym is ∙ next.parts) in
      one (ask_of t) (next.next).answer j (hears next.heard) (subst (λ (z : Exchange). IsJudged (ask_of t) z.answer j) same judges) next.is_meant

  ends_settled : (result : Result (Unit {0}) CalendarSyncFault) → CalendarSyncEnds written empty_mirror t taken left result → IsSettled result
  ends_settled result (ended r ends is) =
      subst IsSettled (sym is) (any_settled r (is_settled written MeansSound (one_sound one) xs more t taken left r k parts ends))
  ends_settled result (bad_calendar x f judges only is) =
      let next = second_not_past written MeansSound (one_sound one) xs taken left more judges.lists t k parts judges.walks in
      absurd (not_bad f next.heard (judged_so x (judged.BadCalendar f) next only judges.is_judged))
  ends_settled result (wrong_name x judges only is) =
      let next = second_not_past written MeansSound (one_sound one) xs taken left more judges.lists t k parts judges.walks in
      absurd (not_wrong next.heard (judged_so x judged.WrongName next only judges.is_judged))

pub settle_so : (law : WorldsHold) (sound : AnswersSound) (heard_so : HeardInBytes) (one : OneMeaning) (judgement : OneJudgement) (written : Ask → List ℕ)
    (t : MirrorState) (taken left xs more : List Exchange) (result : Result (Unit {0}) CalendarSyncFault) → SettlesSecond IsCalendarAnsweredOver xs
    → taken ++ left ≡ xs ++ more → CalendarSyncEnds written empty_mirror t taken left result → IsSettled result
settle_so law sound heard_so one judgement written t taken left xs more result k parts ends =
    let logs = begun_sound sound heard_so k.history k.is_history k.some k.steps xs k.after k.logs in
    let f = follows law judgement heard_so written k.history k.steps k.after xs k.is_history k.some logs in
    let second = second_sound one (k.after).history xs (length k.history) (k.after).mirror f k.empty in
    ends_settled judgement written xs more t taken left second parts result ends
