-- A sync over the answers that a world brings to its mirror, which keeps calendars.
use Rattle.std.proofs.Common.{◌≡◌, ◌≢◌, ℕ, ◌<◌, ◌≤◌, Bool, true, false, cond, None, Some, List, [], ◌∷◌, length, take, map, Result, Ok, Err, refl, sym}
use Rattle.std.proofs.Common.{subst, ap, ◌∙◌}
use Rattle.std.proofs.Common.{arith, append-nil, length-append}
use Rattle.std.specs.Str.{bytes_eq}
use Rattle.td_base.specs.declared.report.Ask.{Ask}
use Rattle.td_base.specs.declared.report.Ask.TheVariants as ask
use Rattle.td_base.specs.declared.report.Role.TheVariants.{Primary}
use Rattle.td_base.specs.declared.upstream.Exchange.{Exchange}
use Rattle.catalogue.specs.Histories.{IsHistory}
use Rattle.catalogue.specs.Lookups.{zones_of}
use Rattle.catalogue.specs.Releases.{ContentData, ReleaseData}
use Rattle.http_request.specs.declared.head.Head.{Head}
use Rattle.negotiate.specs.declared.choosing.Format.{Format}
use Rattle.negotiate.specs.declared.choosing.Format.TheVariants.{Calendar}
use Rattle.vtimezone.specs.CalendarText.{calendar}
use Rattle.vtimezone.specs.ZoneParts.{range_parts}
use Rattle.vtimezone_reader.specs.ReadLines.{calendar_in}
use Rattle.vtimezone_reader.specs.declared.calendar_fault.CalendarFault.{CalendarFault}
use Rattle.vtimezone_reader.specs.declared.calendar_type.Calendar.{Calendar as ReadCalendar}
use Rattle.zone_meaning.specs.Sound.{IsSound}
use Rattle.actions.specs.Action.{action}
use Rattle.actions.specs.Formats.{alias_of, calendar_text}
use Rattle.sync_core.specs.Mirrors.{MirrorState, ZoneFile, ask_of, empty_mirror}
use Rattle.sync_core.specs.declared.heard_type.Heard.{Heard}
use Rattle.sync_core.specs.declared.heard_type.Heard.TheVariants as heard
use Rattle.sync_core.proofs.lemmas.Puts.{same_bytes}
use Rattle.mirror.specs.Shares.{WalksOn}
use Rattle.mirror.specs.Understanding.{Means}
use Rattle.mirror.specs.declared.limits.TheConstants.{MOST_ANSWER}
use Rattle.mirror.specs.declared.understood_type.Understood.{Understood}
use Rattle.mirror.specs.declared.understood_type.Understood.TheVariants as understood
use Rattle.calendar_mirror.specs.CalendarShares.{CalendarSyncEnds, bad_calendar, ended, of_sync, wrong_name}
use Rattle.mirror.specs.declared.sync_fault.SyncFault.{SyncFault}
use Rattle.calendar_mirror.specs.Judging.{IsJudged, MeansSound, hears, judged_by, judged_calendar, judged_data, judged_heard}
use Rattle.calendar_mirror.specs.declared.judged_type.Judged.{Judged}
use Rattle.calendar_mirror.specs.declared.judged_type.Judged.TheVariants as judged
use Rattle.calendar_mirror.specs.declared.sync_fault.CalendarSyncFault.{CalendarSyncFault}
use Rattle.sync_world.specs.Calendars.{HoldsCalendars, IsCalendarHeadOf, IsCalendarHeardOver, all_time, calendar_service, kept_calendar, zone_calendar}
use Rattle.sync_world.specs.Hearing.{IsDataHeardOver, IsHeardIn, whole_data}
use Rattle.sync_world.specs.Holding.{HoldsLast, SaysHolds, file_of}
use Rattle.sync_world.specs.Primaries.{AsksSinceKept}
use Rattle.sync_world.specs.Worlds.{IsAnswer, Leads, Sent, SyncWorld, WorldStep, world_begun}
use Rattle.mirror_world.specs.Answers.{IsDataAnsweredOver}
use Rattle.mirror_world.specs.Follows.{FollowsFrom}
use Rattle.mirror_world.specs.Logs.{Logs}
use Rattle.mirror_world.proofs.lemmas.Following.{followed}
use Rattle.mirror_world.proofs.lemmas.Syncing.{ends_at, share_holds}
use Rattle.mirror_world.proofs.lemmas.Worlds.{SentStands, begins, grows, led, stood_on}
use Rattle.calendar_world.specs.Endings.{AreCalendarsAnswered, HoldsAt, IsCalendarAnsweredOver, IsCalendarUnderstood}
use Rattle.calendar_world.proofs.Ends.{IsAnsweredBy, ends_understood}
use Rattle.calendar_world.proofs.Sound.{AreHeard, OneMeaning}
use Rattle.calendar_world.proofs.Told.{Fits, IsRead, IsTold}
use Rattle.calendar_world.proofs.Worlds.{over_first}

-- ---- what is sound means the same to any mirror

same_heard : (h k : Heard) → hears h ≡ hears k → h ≡ k
same_heard h k e = cc

of_named : (text : List ℕ) (b : Bool) (h : Heard) → hears h ≡ cond b (hears (heard.Zone text)) judged.WrongName → heard.Zone text ≡ h
of_named text true h e = sym (same_heard h (heard.Zone text) e)
of_named text false h e = absurd (cc)

of_text : (name text : List ℕ) (r : Result ReadCalendar CalendarFault) (h : Heard) → hears h ≡ judged_calendar name text r → heard.Zone text ≡ h
of_text name text (Ok calendar) h e = of_named text (bytes_eq calendar.tzid name) h e
of_text name text (Err f) h e = absurd (cc)

of_data : (name : List ℕ) (k h : Heard) → hears h ≡ judged_data name k → k ≡ h
of_data name (heard.Zone text) h e = of_text name text (calendar_in text) h e
of_data name (heard.List doc) h e = sym (same_heard h (heard.List doc) e)
of_data name heard.BadToken h e = sym (same_heard h heard.BadToken e)

of_heard : (a : Ask) (k h : Heard) → hears h ≡ judged_heard a k → k ≡ h
of_heard (ask.Get name) k h e = of_data name k h e
of_heard (ask.List token) k h e = sym (same_heard h k e)

of_judged : (a : Ask) (u : Understood) (h : Heard) → hears h ≡ judged_by a u → u ≡ understood.Hears h
of_judged a (understood.Hears k) h e = ap understood.Hears (of_heard a k h e)
of_judged a (understood.Unreadable place) h e = absurd (cc)
of_judged a (understood.Refuses status) h e = absurd (cc)

pub sound_means : (a : Ask) (answer : List ℕ) (h : Heard) → MeansSound a answer (understood.Hears h) → Means a answer (understood.Hears h)
sound_means a answer h j = subst (Means a answer) (of_judged a j.0 h j.2) j.1

-- an answer is one thing alone
abbrev pub OneJudgement : Type 0
OneJudgement = (a : Ask) (answer : List ℕ) (j k : Judged) → IsJudged a answer j → IsJudged a answer k → j ≡ k

same_sound : (u v : Understood) → judged.Sound u ≡ judged.Sound v → u ≡ v
same_sound u v e = cc

pub one_sound : OneJudgement → (a : Ask) (answer : List ℕ) (u v : Understood) → MeansSound a answer u → MeansSound a answer v → u ≡ v
one_sound one a answer u v p q = same_sound u v (one a answer (judged.Sound u) (judged.Sound v) p q)

-- ---- what is kept is what a primary serves

no_alias : (tzid : List ℕ) → alias_of tzid tzid ≡ None
no_alias tzid = ap (λ same. cond same None (Some tzid)) (same_bytes tzid)

own_calendar : (c : ContentData) → whole_data Calendar c.tzid c ≡ zone_calendar c
unfolding calendar_text
own_calendar c = ap (λ alias. calendar c.tzid alias (range_parts c.file all_time) None) (no_alias c.tzid)

texts_served : (cs : List ContentData) → map (file_of calendar_service) cs ≡ map kept_calendar cs
texts_served [] = refl
texts_served (c ∷ cs) =
    ap (λ text. record { tzid = c.tzid; bytes = text } ∷ map (file_of calendar_service) cs) (own_calendar c)
    ∙ ap (λ (l : List ZoneFile). kept_calendar c ∷ l) (texts_served cs)

last_held : (s : MirrorState) (G : List ReleaseData) → HoldsCalendars s G → HoldsLast calendar_service s G
last_held s G k = record {
  token = k.token;
  entries = k.entries;
  files = k.texts ∙ sym (texts_served (zones_of G));
  pending = k.pending;
  coming = k.coming;
}

calendars_held : (s : MirrorState) (G : List ReleaseData) → HoldsLast calendar_service s G → HoldsCalendars s G
calendars_held s G k = record {
  token = k.token;
  entries = k.entries;
  texts = k.files ∙ texts_served (zones_of G);
  pending = k.pending;
  coming = k.coming;
}

-- ---- over a world

-- that a mirror of calendars holds a release
abbrev pub WorldsHold : Type 0
WorldsHold =
    (H : List ReleaseData) (steps : List WorldStep) (w v : SyncWorld) (n : ℕ) (sent : Sent) (h : Heard) → IsHistory IsSound H → 1 ≤ length H
    → Leads IsSound IsCalendarHeardOver (world_begun H) steps w → IsAnswer IsCalendarHeardOver w n v sent h → SaysHolds w.mirror h
    → HoldsCalendars v.mirror (take n w.history)

-- that each request for what is outstanding is answered
abbrev pub RequestsAnswered : Type 0
RequestsAnswered =
    (H : List ReleaseData) (steps : List WorldStep) (w : SyncWorld) (sent : Sent) (n : ℕ) (head : Head) → IsHistory IsSound H → 1 ≤ length H
    → Leads IsSound IsCalendarHeardOver (world_begun H) steps w → w.sent ≡ Some sent → sent.since ≤ n → n ≤ length w.history
    → IsCalendarHeadOf sent.ask head
    → (h : Heard) × IsHeardIn sent.ask (action (take n w.history) Primary head) h
    × (AsksSinceKept calendar_service w.history n sent.ask → h ≢ heard.BadToken)

-- what the bytes of an exchange with a primary mean is what is heard in the answer of the action
abbrev pub HeardInBytes : Type 0
HeardInBytes =
    (f : Format) (G : List ReleaseData) (a : Ask) (x : Exchange) (h : Heard) → IsDataAnsweredOver f G a x → Means a x.answer (understood.Hears h)
    → IsDataHeardOver f G a h

abbrev pub MeantInBytes : Type 0
MeantInBytes =
    (f : Format) (G : List ReleaseData) (a : Ask) (x : Exchange) (h : Heard) → (o : IsDataAnsweredOver f G a x) → length x.answer < MOST_ANSWER
    → IsHeardIn a (action G Primary o.head) h → Means a x.answer (understood.Hears h)

module _ (law : WorldsHold) (one : OneJudgement) (heard_so : HeardInBytes) (written : Ask → List ℕ) (H : List ReleaseData) (steps : List WorldStep)
    (w : SyncWorld) (taken : List Exchange) (history : IsHistory IsSound H) (some : 1 ≤ length H)
    (logs : Logs IsSound IsCalendarAnsweredOver MeansSound (world_begun H) steps taken w) where
  heard_over : (G : List ReleaseData) (a : Ask) (x : Exchange) (h : Heard) → IsCalendarAnsweredOver G a x → MeansSound a x.answer (understood.Hears h)
      → IsCalendarHeardOver G a h
  heard_over G a x h o means = heard_so Calendar G a x h o (sound_means a x.answer h means)

  leads : Leads IsSound IsCalendarHeardOver (world_begun H) steps w
  leads = led IsSound IsCalendarAnsweredOver MeansSound IsCalendarHeardOver heard_over (world_begun H) steps taken w logs

  pub longer : length H ≤ length w.history
  longer =
      let k = grows IsSound IsCalendarAnsweredOver MeansSound (world_begun H) steps taken w logs in
      omega (arith, ap length k.is ∙ length-append H k.more)

  pub follows : FollowsFrom IsCalendarAnsweredOver MeansSound calendar_service w.history (length H) empty_mirror taken w.mirror
  follows =
      followed IsSound IsCalendarAnsweredOver MeansSound IsCalendarHeardOver calendar_service heard_over H
      (λ made v u n sent h on answer says. last_held u.mirror (take n v.history) (law H made v u n sent h history some on answer says)) steps taken w logs

  -- the mirror of the world has come to where the walk ends
  state_is : (lists : ℕ) (t : MirrorState) → WalksOn written MeansSound empty_mirror taken 0 lists t → w.mirror ≡ t
  state_is lists t walks =
      ends_at written IsCalendarAnsweredOver MeansSound (one_sound one) calendar_service w.history taken (length H) lists empty_mirror t w.mirror longer follows
      walks

  module _ (requests : RequestsAnswered) (meant_so : MeantInBytes) (t : MirrorState) (untaken : List Exchange) (answered : AreCalendarsAnswered w untaken) where
    last_answered : (x : Exchange) (lists : ℕ) → untaken ≡ x ∷ [] → WalksOn written MeansSound empty_mirror taken 0 lists t → IsAnsweredBy (ask_of t) x
    last_answered x lists parts walks =
        let k : AreCalendarsAnswered w (x ∷ []) = subst (AreCalendarsAnswered w) parts answered in
        let n = k.0 in
        let sent = k.1 in
        let is = k.2 in
        let stands = stood_on IsSound IsCalendarHeardOver (length H) (world_begun H) steps w leads (begins H) in
        let asked = subst (SentStands (length H) w.mirror) is.outstanding stands.sent in
        let least : length H ≤ sent.since = asked.1 in
        let from : sent.since ≤ n = is.from in
        let o = is.is_over in
        let found = requests H steps w sent n o.head history some leads is.outstanding is.from is.upto o.is_request.asks_so in
        let over = over_first IsCalendarHeardOver H steps w history some leads n (omega (arith, some, least, from)) is.upto in
        let same : sent.ask ≡ ask_of t = asked.0 ∙ ap ask_of (state_is lists t walks) in
        record {
          over = take n w.history;
          history = over.history;
          some = over.some;
          heard = found.0;
          is_heard = subst (λ a. IsCalendarHeardOver (take n w.history) a found.0) same
              (record { head = o.head; asks_so = o.is_request.asks_so; hears = found.1 });
          is_meant = subst (λ a. Means a x.answer (understood.Hears found.0)) same (meant_so Calendar (take n w.history) sent.ask x found.0 o k.3 found.1);
        }

    pub all_understood : Fits → IsRead → IsTold → AreHeard → OneMeaning → (result : Result (Unit {0}) CalendarSyncFault)
        → CalendarSyncEnds written empty_mirror t taken untaken result → IsCalendarUnderstood result
    all_understood fits read told are_heard one_meaning result ends =
        ends_understood fits read told are_heard one_meaning written empty_mirror t taken untaken result ends last_answered

  -- ---- where it ends well

  not_err : (f : CalendarSyncFault) (result : Result (Unit {0}) CalendarSyncFault) → result ≡ Err f → result ≡ Ok tt → ⊥
  not_err f result is ok = let wrong : Err f ≡ Ok tt = sym is ∙ ok in cc

  ok_sync : (r : Result (Unit {0}) SyncFault) → of_sync r ≡ Ok tt → r ≡ Ok tt
  ok_sync (Ok done) e = refl
  ok_sync (Err f) e = absurd (cc)

  pub holds_at : (t : MirrorState) (untaken : List Exchange) (result : Result (Unit {0}) CalendarSyncFault)
      → CalendarSyncEnds written empty_mirror t taken untaken result → result ≡ Ok tt
      → (n : ℕ) × HoldsAt w.history n taken t
  holds_at t untaken result (ended r ends is) ok =
      let fine = ok_sync r (sym is ∙ ok) in
      let all = subst (λ l. FollowsFrom IsCalendarAnsweredOver MeansSound calendar_service w.history (length H) empty_mirror l w.mirror)
      (sym (append-nil taken)) follows in
      let k = share_holds written IsCalendarAnsweredOver MeansSound (one_sound one) calendar_service w.history (length H) empty_mirror t w.mirror taken untaken
      [] r
      longer all ends in
      let from : length H ≤ k.0 = (k.1).from in
      let low : 1 ≤ k.0 = omega (arith, some, from) in
      let over = over_first IsCalendarHeardOver H steps w history some leads k.0 low (k.1).upto in (
        k.0,
        record {
          is_place = (low, (k.1).upto);
          history = over.history;
          answered = (k.1).answered fine;
          holds = calendars_held t (take k.0 w.history) ((k.1).holds fine);
        },
      )
  holds_at t untaken result (bad_calendar x f judges parts is) ok = absurd (not_err _ result is ok)
  holds_at t untaken result (wrong_name x judges parts is) ok = absurd (not_err _ result is ok)
