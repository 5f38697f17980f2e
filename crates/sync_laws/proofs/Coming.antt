-- Requests and responses lead any mirror of a world on to where it is in sync.
use Rattle.std.proofs.Common.{◌≡◌, ℕ, ◌≤◌, Some, List, [], ◌∷◌, length, take, codes, true, refl, sym, subst, arith, length-take}
use Rattle.td_base.specs.declared.report.Ask.{Ask}
use Rattle.catalogue.specs.Histories.{IsHistory}
use Rattle.catalogue.specs.Releases.{ReleaseData}
use Rattle.catalogue.specs.declared.limits.TheConstants.{KEPT_TOKENS}
use Rattle.http_client.specs.Requests.{request_text}
use Rattle.http_request.specs.Judging.{is_host}
use Rattle.http_request.specs.declared.head.Head.{Head}
use Rattle.negotiate.specs.declared.choosing.Format.TheVariants.{Tzif}
use Rattle.zone_meaning.specs.Sound.{IsSound}
use Rattle.sync_core.specs.declared.heard_type.Heard.{Heard}
use Rattle.sync_world.specs.Hearing.{IsHeardOver, action_service}
use Rattle.sync_world.specs.Primaries.{HeardIsTold, told_by}
use Rattle.sync_world.specs.Reaching.{ComesToHold, ToldIsHeard}
use Rattle.sync_world.specs.Worlds as world
use Rattle.sync_world.specs.Worlds.{IsAnswer, Leads, LeadsTo, Sent, SyncWorld, WorldStep, world_begun}
use Rattle.sync_world.proofs.Answering.{told_is_heard}
use Rattle.sync_world.proofs.Files.{history_front}
use Rattle.sync_world.proofs.Looks.{looked_up}
use Rattle.sync_world.proofs.Reaching.{holding_comes}
use Rattle.sync_world.proofs.Runs.{SentStands, WorldStands, always, step, told_so}
use Rattle.sync_world.proofs.Telling.{tells_so}
use Rattle.sync_world.proofs.Tokens.{finds, finds_no_other}
use Rattle.mirror_world.specs.Answers.{IsRequestFor}
use Rattle.mirror_world.specs.Asking.{IsAskable}
use Rattle.sync_laws.proofs.Askable.{askable}

-- what there is to say of a history is what is received
abbrev Said : List ReleaseData → Ask → Heard → Type 0
Said H a h = told_by action_service H a ≡ Some h

said_is_told : HeardIsTold IsSound Said action_service
said_is_told H a h history some is = is

told_is_said : ToldIsHeard IsSound Said action_service
told_is_said H a h history some is = is

abbrev Stand : SyncWorld → Type 0
Stand w = WorldStands action_service IsSound w

step_on : (w : SyncWorld) (x : WorldStep) (v : SyncWorld) → Stand w → LeadsTo IsSound IsHeardOver w x v → Stand v
step_on w x v i is = step action_service IsSound IsHeardOver (tells_so Tzif) finds finds_no_other w x v i is

step_said : (w : SyncWorld) (x : WorldStep) (v : SyncWorld) → Stand w → LeadsTo IsSound Said w x v → Stand v
step_said w x v i is = step action_service IsSound Said said_is_told finds finds_no_other w x v i is

-- ---- what is received was said

one_said : (w : SyncWorld) (x : WorldStep) (v : SyncWorld) → Stand w → LeadsTo IsSound IsHeardOver w x v → LeadsTo IsSound Said w x v
one_said w (world.install r) v i is = is
one_said w world.asks v i is = is
one_said w (world.answer n) v i is =
    let sent = is.0 in
    let h = is.1 in
    let a = is.2 in
    let stands = subst (SentStands action_service w.history (looked_up w.mirror)) a.outstanding i.state in
    let low : 1 ≤ sent.since = stands.1 in
    let from : sent.since ≤ n = a.from in
    let is_told = told_so action_service IsSound IsHeardOver (tells_so Tzif) w.history n sent.ask h i.history (omega arith) a.upto a.is_heard in
    (sent, h, record { outstanding = a.outstanding; from = a.from; upto = a.upto; is_heard = is_told; is_taken = a.is_taken })
one_said w world.refuse_token v i is = is
one_said w world.lose v i is = is
one_said w world.restart v i is = is
one_said w world.restart_empty v i is = is

all_said : (w : SyncWorld) (xs : List WorldStep) (v : SyncWorld) → Stand w → Leads IsSound IsHeardOver w xs v → Leads IsSound Said w xs v
all_said w [] v i is = is
all_said w (x ∷ xs) v i is = (is.0, one_said w x is.0 i is.1, all_said is.0 xs v (step_on w x is.0 i is.1) is.2)

-- ---- what is said is received, since what is outstanding can be requested

-- that each such request is a head that asks so
abbrev pub RequestsAsk : Type 0
RequestsAsk = (host : List ℕ) (a : Ask) → IsAskable host a → (head : Head) × IsRequestFor a (request_text host a) head

pub sent_askable : (w : SyncWorld) (sent : Sent) (host : List ℕ) → Stand w → w.sent ≡ Some sent → is_host host ≡ true → length host ≤ 255
    → IsAskable host sent.ask
sent_askable w sent host i out is few =
    let stands = subst (SentStands action_service w.history (looked_up w.mirror)) out i.state in
    subst (IsAskable host) (sym stands.0) (askable host is few action_service w.history sent.since (looked_up w.mirror) i.history i.some stands.3)

pub requests_askable : (H : List ReleaseData) (steps : List WorldStep) (w : SyncWorld) (sent : Sent) (host : List ℕ) → IsHistory IsSound H → 1 ≤ length H
    → Leads IsSound IsHeardOver (world_begun H) steps w → w.sent ≡ Some sent → is_host host ≡ true → length host ≤ 255
    → IsAskable host sent.ask
requests_askable H steps w sent host h some leads out is few =
    sent_askable w sent host (always action_service IsSound IsHeardOver (tells_so Tzif) finds finds_no_other H steps w h some leads) out is few

module _ (asks : RequestsAsk) where
  answer_heard : (w : SyncWorld) (n : ℕ) (v : SyncWorld) (sent : Sent) (h : Heard) → Stand w → IsAnswer Said w n v sent h → IsAnswer IsHeardOver w n v sent h
  answer_heard w n v sent h i a =
      let stands = subst (SentStands action_service w.history (looked_up w.mirror)) a.outstanding i.state in
      let low : 1 ≤ sent.since = stands.1 in
      let from : sent.since ≤ n = a.from in
      let upto : n ≤ length w.history = a.upto in
      let some : 1 ≤ length (take n w.history) = omega (arith, low, from, upto, length-take n w.history) in
      let request = asks (codes "a") sent.ask (sent_askable w sent (codes "a") i a.outstanding refl (omega arith)) in
      let so = (request.1).asks_so in
      record {
        outstanding = a.outstanding;
        from = a.from;
        upto = a.upto;
        is_heard = record {
          head = request.0;
          asks_so = so;
          hears = told_is_heard Tzif (take n w.history) sent.ask request.0 h (history_front IsSound w.history n i.history) some so a.is_heard;
        };
        is_taken = a.is_taken;
      }

  one_heard : (w : SyncWorld) (x : WorldStep) (v : SyncWorld) → Stand w → LeadsTo IsSound Said w x v → LeadsTo IsSound IsHeardOver w x v
  one_heard w (world.install r) v i is = is
  one_heard w world.asks v i is = is
  one_heard w (world.answer n) v i is = (is.0, is.1, answer_heard w n v is.0 is.1 i is.2)
  one_heard w world.refuse_token v i is = is
  one_heard w world.lose v i is = is
  one_heard w world.restart v i is = is
  one_heard w world.restart_empty v i is = is

  all_heard : (w : SyncWorld) (xs : List WorldStep) (v : SyncWorld) → Stand w → Leads IsSound Said w xs v → Leads IsSound IsHeardOver w xs v
  all_heard w [] v i is = is
  all_heard w (x ∷ xs) v i is = (is.0, one_heard w x is.0 i is.1, all_heard is.0 xs v (step_said w x is.0 i is.1) is.2)

  stands_on : (w : SyncWorld) (xs : List WorldStep) (v : SyncWorld) → Stand w → Leads IsSound Said w xs v → Stand v
  stands_on w [] v i is = subst Stand (sym is) i
  stands_on w (x ∷ xs) v i is = stands_on is.0 xs v (step_said w x is.0 i is.1) is.2

  pub come_to_hold : (H : List ReleaseData) (steps : List WorldStep) (w : SyncWorld) → IsHistory IsSound H → 1 ≤ length H
      → Leads IsSound IsHeardOver (world_begun H) steps w → ComesToHold IsSound IsHeardOver w
  come_to_hold H steps w h some leads =
      let i = always action_service IsSound IsHeardOver (tells_so Tzif) finds finds_no_other H steps w h some leads in
      let begun = always action_service IsSound IsHeardOver (tells_so Tzif) finds finds_no_other H [] (world_begun H) h some refl in
      let kept : 1 ≤ KEPT_TOKENS = omega arith in
      let c = holding_comes action_service IsSound Said said_is_told finds finds_no_other told_is_said kept H steps w h some
      (all_said (world_begun H) steps w begun leads) in
      let before = stands_on w c.steps c.before i c.leads in
      record {
        steps = c.steps;
        exchanges = c.exchanges;
        before = c.before;
        leads = all_heard w c.steps c.before i c.leads;
        after = c.after;
        sent = c.sent;
        heard = c.heard;
        answer = answer_heard c.before (length w.history) c.after c.sent c.heard before c.answer;
        holds = c.holds;
      }
