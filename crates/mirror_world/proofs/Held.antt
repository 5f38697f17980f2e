-- The laws of a mirror, from the law of the world.
use Rattle.std.proofs.Common.{◌≡◌, ◌≢◌, ℕ, ◌<◌, ◌≤◌, Some, List, [], ◌∷◌, ◌++◌, length, take, Result, Ok, ap, ◌∙◌, subst, arith}
use Rattle.std.proofs.Common.{length-append, length-take}
use Rattle.td_base.specs.Views.{File}
use Rattle.td_base.specs.declared.report.Ask.{Ask}
use Rattle.td_base.specs.declared.report.Role.TheVariants.{Primary}
use Rattle.td_base.specs.declared.upstream.Exchange.{Exchange}
use Rattle.catalogue.specs.Histories.{IsHistory}
use Rattle.catalogue.specs.Releases.{ReleaseData}
use Rattle.zone_meaning.specs.Sound.{IsSound}
use Rattle.release_check.specs.Before.{Before, before_of}
use Rattle.release_check.specs.Folder.{examined_in}
use Rattle.http_request.specs.declared.head.Head.{Head}
use Rattle.actions.specs.Action.{action}
use Rattle.sync_core.specs.Mirrors.{MirrorState, ask_of, empty_mirror}
use Rattle.sync_core.specs.Published.{HasFiles, manifest_of}
use Rattle.sync_core.specs.Steps.{sync_step}
use Rattle.sync_core.specs.declared.heard_type.Heard.{Heard}
use Rattle.sync_core.specs.declared.heard_type.Heard.TheVariants as heard
use Rattle.mirror.specs.Shares.{IsFor, SyncEnds, WalksOn}
use Rattle.mirror.specs.Understanding.{Means}
use Rattle.mirror.specs.declared.limits.TheConstants.{MOST_ANSWER}
use Rattle.mirror.specs.declared.sync_fault.SyncFault.{SyncFault}
use Rattle.mirror.specs.declared.understood_type.Understood.TheVariants as understood
use Rattle.sync_world.specs.Hearing.{IsHeadOf, IsHeardIn, IsHeardOver, action_service}
use Rattle.sync_world.specs.Holding.{HoldsLast, SaysHolds}
use Rattle.sync_world.specs.Primaries.{AsksSinceKept, IsPlace}
use Rattle.sync_world.specs.Worlds.{IsAnswer, Leads, Sent, SyncWorld, WorldStep, world_begun}
use Rattle.mirror_world.specs.Answers.{AreAnswered, IsAnswered, IsAnsweredOver}
use Rattle.mirror_world.specs.Contents.{MayFollow}
use Rattle.mirror_world.specs.Follows.{FollowsFrom}
use Rattle.mirror_world.specs.Logs.{Logs}
use Rattle.mirror_world.specs.Runs.{HoldInTurn, IsUnderstood, Share, SyncsInTurn, all_taken}
use Rattle.mirror_world.proofs.lemmas.Following.{followed}
use Rattle.mirror_world.proofs.lemmas.Histories.{front_history, stays_history}
use Rattle.mirror_world.proofs.Hearing.{heard_over, means_so}
use Rattle.mirror_world.proofs.lemmas.Syncing.{OneMeaning, after_all, in_turn, is_understood, share_holds, walk_holds}
use Rattle.mirror_world.proofs.lemmas.Worlds.{SentStands, begins, grows, led, stood_on}

-- the law of the world of a primary and a mirror
abbrev pub WorldsHold : Type 0
WorldsHold =
    (H : List ReleaseData) (steps : List WorldStep) (w v : SyncWorld) (n : ℕ) (sent : Sent) (h : Heard) → IsHistory IsSound H → 1 ≤ length H
    → Leads IsSound IsHeardOver (world_begun H) steps w → IsAnswer IsHeardOver w n v sent h → SaysHolds w.mirror h
    → HoldsLast action_service v.mirror (take n w.history)

module _ (law : WorldsHold) (H : List ReleaseData) (steps : List WorldStep) (xs : List Exchange) (v : SyncWorld) (history : IsHistory IsSound H)
    (some : 1 ≤ length H) (logs : Logs IsSound IsAnsweredOver Means (world_begun H) steps xs v) where
  pub follows : FollowsFrom IsAnsweredOver Means action_service v.history (length H) empty_mirror xs v.mirror
  follows =
      followed IsSound IsAnsweredOver Means IsHeardOver action_service heard_over H
      (λ made w u n sent h leads answer says. law H made w u n sent h history some leads answer says) steps xs v logs

  pub longer : length H ≤ length v.history
  longer =
      let k = grows IsSound IsAnsweredOver Means (world_begun H) steps xs v logs in
      omega (arith, ap length k.is ∙ length-append H k.more)

pub go_on : (H : List ReleaseData) (steps : List WorldStep) (xs : List Exchange) (v : SyncWorld) (n : ℕ) → IsHistory IsSound H
    → Logs IsSound IsAnsweredOver Means (world_begun H) steps xs v → (length H ≤ length v.history) × IsHistory IsSound (take n v.history)
go_on H steps xs v n history logs =
    let k = grows IsSound IsAnsweredOver Means (world_begun H) steps xs v logs in
    let leads = led IsSound IsAnsweredOver Means IsHeardOver heard_over (world_begun H) steps xs v logs in (
      omega (arith, ap length k.is ∙ length-append H k.more),
      front_history v.history n (stays_history IsHeardOver (world_begun H) steps v leads history),
    )

pub hold_in_turn : (law : WorldsHold) (one : OneMeaning Means) (written : Ask → List ℕ) (H : List ReleaseData) (steps : List WorldStep) (v : SyncWorld)
    (shares : List Share) (t : MirrorState) → IsHistory IsSound H → 1 ≤ length H
    → Logs IsSound IsAnsweredOver Means (world_begun H) steps (all_taken shares) v → SyncsInTurn written Means empty_mirror shares t
    → HoldInTurn IsAnsweredOver action_service v.history (length H) shares
hold_in_turn law one written H steps v shares t history some logs syncs =
    in_turn written IsAnsweredOver Means one action_service v.history shares (length H) empty_mirror t v.mirror
    (longer law H steps (all_taken shares) v history some logs) (follows law H steps (all_taken shares) v history some logs) syncs

pub walk_settles : (law : WorldsHold) (one : OneMeaning Means) (written : Ask → List ℕ) (H : List ReleaseData) (steps : List WorldStep) (v : SyncWorld)
    (xs : List Exchange) (x : Exchange) (lists : ℕ) (t : MirrorState) (h : Heard) → IsHistory IsSound H → 1 ≤ length H
    → Logs IsSound IsAnsweredOver Means (world_begun H) steps (xs ++ x ∷ []) v → WalksOn written Means empty_mirror xs 0 lists t
    → IsFor written Means t x (understood.Hears h) → SaysHolds t h
    → (n : ℕ) × IsPlace v.history n × HoldsLast action_service (sync_step t h) (take n v.history)
walk_settles law one written H steps v xs x lists t h history some logs walks is_for says =
    walk_holds written IsAnsweredOver Means one action_service v.history (length H) lists xs x empty_mirror t v.mirror h some
    (longer law H steps (xs ++ x ∷ []) v history some logs) (follows law H steps (xs ++ x ∷ []) v history some logs) walks is_for says

-- that each request for what is outstanding is answered
abbrev pub RequestsAnswered : Type 0
RequestsAnswered =
    (H : List ReleaseData) (steps : List WorldStep) (w : SyncWorld) (sent : Sent) (n : ℕ) (head : Head) → IsHistory IsSound H → 1 ≤ length H
    → Leads IsSound IsHeardOver (world_begun H) steps w → w.sent ≡ Some sent → sent.since ≤ n → n ≤ length w.history → IsHeadOf sent.ask head
    → (h : Heard) × IsHeardIn sent.ask (action (take n w.history) Primary head) h
    × (AsksSinceKept action_service w.history n sent.ask → h ≢ heard.BadToken)

pub understood_so : (law : RequestsAnswered) (H : List ReleaseData) (steps : List WorldStep) (xs : List Exchange) (w : SyncWorld) (n : ℕ) (sent : Sent)
    (x : Exchange) → IsHistory IsSound H → 1 ≤ length H → Logs IsSound IsAnsweredOver Means (world_begun H) steps xs w → IsAnswered IsAnsweredOver w n sent x
    → length x.answer < MOST_ANSWER → (h : Heard) × Means (ask_of w.mirror) x.answer (understood.Hears h)
    × (AsksSinceKept action_service w.history n sent.ask → h ≢ heard.BadToken)
understood_so law H steps xs w n sent x history some logs k few =
    let leads : Leads IsSound IsHeardOver (world_begun H) steps w = led IsSound IsAnsweredOver Means IsHeardOver heard_over (world_begun H) steps xs w logs in
    let stands = stood_on IsSound IsHeardOver (length H) (world_begun H) steps w leads (begins H) in
    let asked = subst (SentStands (length H) w.mirror) k.outstanding stands.sent in
    let o = k.is_over in
    let found = law H steps w sent n o.head history some leads k.outstanding k.from k.upto o.is_request.asks_so in (
      found.0,
      subst (λ a. Means a x.answer (understood.Hears found.0)) asked.0 (means_so (take n w.history) sent.ask x found.0 o few found.1),
      found.2,
    )

pub all_understood : (law : WorldsHold) (requests : RequestsAnswered) (one : OneMeaning Means) (written : Ask → List ℕ) (H : List ReleaseData)
    (steps : List WorldStep) (w : SyncWorld) (shares : List Share) (s t : MirrorState) (taken untaken : List Exchange) (result : Result (Unit {0}) SyncFault)
    → IsHistory IsSound H → 1 ≤ length H → Logs IsSound IsAnsweredOver Means (world_begun H) steps (all_taken shares ++ taken) w
    → SyncsInTurn written Means empty_mirror shares s → SyncEnds written Means s t taken untaken result → AreAnswered w untaken → IsUnderstood result
all_understood law requests one written H steps w shares s t taken untaken result history some logs syncs ends answered =
    let all = all_taken shares ++ taken in
    let long = longer law H steps all w history some logs in
    let r = after_all written IsAnsweredOver Means one action_service w.history shares taken (length H) empty_mirror s w.mirror long
    (follows law H steps all w history some logs) syncs in
    is_understood written IsAnsweredOver Means one action_service w.history r.place s t w.mirror taken untaken result r.upto r.follows ends heard_so
  where
    heard_so : (x : Exchange) → untaken ≡ x ∷ [] → (h : Heard) × Means (ask_of w.mirror) x.answer (understood.Hears h)
    heard_so x is =
        let k : AreAnswered w (x ∷ []) = subst (AreAnswered w) is answered in
        let found = understood_so requests H steps (all_taken shares ++ taken) w k.0 k.1 x history some logs k.2 k.3 in
        (found.0, found.1)

-- what a mirror that holds a release states passes wherever it may follow
abbrev pub HeldPass : Type 0
HeldPass =
    (G : List ReleaseData) (s : MirrorState) (files : List File) (before : Before) → IsHistory IsSound G → 1 ≤ length G → HoldsLast action_service s G
    → HasFiles files s.files → MayFollow before (manifest_of s) → (r : ReleaseData) × (examined_in files [] before (manifest_of s) ≡ Ok r)

some_first : (G : List ReleaseData) (n : ℕ) → 1 ≤ n → n ≤ length G → 1 ≤ length (take n G)
some_first G n low upto = omega (arith, low, upto, length-take n G)

pub first_passes : (law : WorldsHold) (one : OneMeaning Means) (pass : HeldPass) (t : MirrorState) → MayFollow (before_of []) (manifest_of t)
    → (written : Ask → List ℕ) (taken untaken rest : List Exchange) (files : List File) (result : Result (Unit {0}) SyncFault) (H : List ReleaseData)
    (steps : List WorldStep) (v : SyncWorld) → IsHistory IsSound H → 1 ≤ length H → Logs IsSound IsAnsweredOver Means (world_begun H) steps (taken ++ rest) v
    → SyncEnds written Means empty_mirror t taken untaken result → result ≡ Ok tt → HasFiles files t.files
    → (r : ReleaseData) × (examined_in files [] (before_of []) (manifest_of t) ≡ Ok r)
first_passes law one pass t may written taken untaken rest files result H steps v history some logs ends good has =
    let long = longer law H steps (taken ++ rest) v history some logs in
    let k = share_holds written IsAnsweredOver Means one action_service v.history (length H) empty_mirror t v.mirror taken untaken rest result long
    (follows law H steps (taken ++ rest) v history some logs) ends in
    let from : length H ≤ k.0 = (k.1).from in
    let low : 1 ≤ k.0 = omega (arith, some, from) in
    pass (take k.0 v.history) t files (before_of []) (go_on H steps (taken ++ rest) v k.0 history logs).1 (some_first v.history k.0 low (k.1).upto)
    ((k.1).holds good) has may
