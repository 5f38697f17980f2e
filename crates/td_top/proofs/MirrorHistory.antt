-- What a mirror's talk publishes comes of its syncs, and is what the primary had.
use Rattle.std.proofs.Common.{◌≡◌, ◌≤◌, ℕ, List, [], ◌∷◌, ◌++◌, length, take, Option, None, Some, Result, Ok, Err, refl, sym, ap, ◌∙◌, subst, arith}
use Rattle.std.proofs.Common.{append_assoc, append-nil}
use Rattle.std.proofs.lemmas.List.{length-take}
use Rattle.td_base.specs.Upstreams.{TellsMore, UpstreamView}
use Rattle.td_base.specs.Views.{File}
use Rattle.td_base.specs.declared.report.Ask.{Ask}
use Rattle.td_base.specs.declared.upstream.Exchange.{Exchange}
use Rattle.catalogue.specs.Histories.{IsHistory}
use Rattle.catalogue.specs.Lookups.{zones_of}
use Rattle.catalogue.specs.Releases.{ReleaseData}
use Rattle.console.specs.declared.line.Line.{Line}
use Rattle.http_client.specs.Requests.{request_text}
use Rattle.mirror.specs.Shares.{SyncEnds}
use Rattle.mirror.specs.Understanding.{Means}
use Rattle.mirror.specs.declared.sync_fault.SyncFault.{SyncFault}
use Rattle.mirror.specs.declared.understood_type.Understood.{Understood}
use Rattle.mirror.proofs.lemmas.Told.{tells_on}
use Rattle.mirror_world.specs.Answers.{IsAnsweredOver}
use Rattle.mirror_world.specs.Contents.{contents_of_state}
use Rattle.mirror_world.specs.Logs.{Logs}
use Rattle.mirror_world.specs.Runs.{HoldInTurn, HoldsAt, Share, SyncsInTurn, all_taken}
use Rattle.release_check.specs.Before.{Before, before_of}
use Rattle.release_check.specs.Folder.{examined_in}
use Rattle.sync_core.specs.Mirrors.{MirrorState, empty_mirror}
use Rattle.sync_core.specs.Published.{HasFiles, manifest_of}
use Rattle.sync_world.specs.Hearing.{action_service}
use Rattle.sync_world.specs.Holding.{HoldsLast}
use Rattle.sync_world.specs.Worlds.{SyncWorld, WorldStep, world_begun}
use Rattle.run_ends.specs.Following.{SaysStated, StatesAfter, StatesLast, SyncsAs, SyncsMirror, faulted, faulted_starved, installed, refused, settled, starved, unchanged}
use Rattle.run_ends.specs.Feeds.{FeedView, Handles, following}
use Rattle.run_ends.specs.MirrorHistory.{FollowsPrimary, IsLastOfPrimary, IsOfPrimary, IsStatedByShare, Publish, PublishInTurn, all_exchanges, confirmed}
use Rattle.run_ends.specs.MirrorHistory.{confirmed_at, joined, joined_at, kept, kept_at, memory_ran_out, none, none_yet, release_refused, sync_failed}
use Rattle.run_ends.specs.Operator.{GetsAnswer, Talk, Talks, changed, handled, no_memory, only_told, talk_begun, unknown, with_joined}
use Rattle.run_ends.specs.Operator as talk
use Rattle.td_top.proofs.Confirmed.{last_is_held}
use Rattle.zone_meaning.specs.Sound.{IsSound}

-- what is known of a mirror and its primary
pub record Laws : Type 0 where
  pub in_turn : (H : List ReleaseData) (steps : List WorldStep) (v : SyncWorld) (host : List ℕ) (shares : List Share) (t : MirrorState)
      → IsHistory IsSound H → 1 ≤ length H → Logs IsSound IsAnsweredOver Means (world_begun H) steps (all_taken shares) v
      → SyncsInTurn (request_text host) Means empty_mirror shares t → HoldInTurn IsAnsweredOver action_service v.history (length H) shares
  pub go_on : (H : List ReleaseData) (steps : List WorldStep) (xs : List Exchange) (v : SyncWorld) (n : ℕ) → IsHistory IsSound H
      → Logs IsSound IsAnsweredOver Means (world_begun H) steps xs v
      → (length H ≤ length v.history) × IsHistory IsSound (take n v.history)
  pub held : (G : List ReleaseData) (s : MirrorState) (files : List File) (before : Before) (r : ReleaseData) → IsHistory IsSound G → 1 ≤ length G
      → HoldsLast action_service s G → HasFiles files s.files → examined_in files [] before (manifest_of s) ≡ Ok r → r.contents ≡ zones_of G
  pub stated : (G : List ReleaseData) (s : MirrorState) → IsHistory IsSound G → 1 ≤ length G → HoldsLast action_service s G
      → contents_of_state s ≡ Some (zones_of G)

-- ---- one more sync

module _ (written : Ask → List ℕ) (means : Ask → List ℕ → Understood → Type 0) where
  syncs_more : (s t : MirrorState) (shares : List Share) (share : Share) → SyncsInTurn written means s shares t
      → SyncEnds written means t share.after share.taken share.untaken share.result → SyncsInTurn written means s (shares ++ share ∷ []) share.after
  syncs_more s t [] share h ends = (subst (λ u. SyncEnds written means u share.after share.taken share.untaken share.result) h ends, refl)
  syncs_more s t (x ∷ xs) share h ends = (h.0, syncs_more x.after t xs share h.1 ends)

exchanges_more : (shares : List Share) (share : Share) → all_exchanges (shares ++ share ∷ []) ≡ all_exchanges shares ++ (share.taken ++ share.untaken)
exchanges_more [] share = append-nil (share.taken ++ share.untaken)
exchanges_more (x ∷ xs) share =
    ap (λ l. (x.taken ++ x.untaken) ++ l) (exchanges_more xs share)
    ∙ sym (append_assoc (x.taken ++ x.untaken) (all_exchanges xs) (share.taken ++ share.untaken))

-- ---- a talk so far

-- the syncs of a run up to where a talk is
record SoFar (host : List ℕ) (first : UpstreamView) (u : Talk) : Type 0 where
  pub shares : List Share
  pub after : MirrorState
  pub upstream : UpstreamView
  pub feed : u.feed ≡ following host after upstream
  pub syncs : SyncsInTurn (request_text host) Means empty_mirror shares after
  pub told : TellsMore first.told upstream.told (all_exchanges shares)
  pub publish : Publish shares u.published

-- the share of one sync
abbrev share_of : (host : List ℕ) (s t : MirrorState) (old new : UpstreamView) (result : Result (Unit {0}) SyncFault) → SyncsAs host s t old new result → Share
share_of host s t old new result h = record { taken = h.taken; untaken = h.untaken; result = result; after = t }

module _ (host : List ℕ) (first : UpstreamView) where
  -- with one sync more
  more_so : (u v : Talk) (so : SoFar host first u) (t : MirrorState) (new : UpstreamView) (result : Result (Unit {0}) SyncFault)
      → (h : SyncsAs host so.after t so.upstream new result) → v.feed ≡ following host t new
      → Publish (so.shares ++ share_of host so.after t so.upstream new result h ∷ []) v.published → SoFar host first v
  more_so u v so t new result h feed publish =
      let share = share_of host so.after t so.upstream new result h in
      record {
        shares = so.shares ++ share ∷ [];
        after = t;
        upstream = new;
        feed = feed;
        syncs = syncs_more (request_text host) Means empty_mirror so.after so.shares share so.syncs h.ends;
        told = subst (λ l. TellsMore first.told new.told l) (sym (exchanges_more so.shares share))
            (tells_on first.told so.upstream.told new.told (all_exchanges so.shares) (h.taken ++ h.untaken) so.told h.told);
        publish = publish;
      }

  -- what was said of what the mirror states
  stated_so : (u v : Talk) (so : SoFar host first u) (t : MirrorState) (new : UpstreamView) (answer : List ℕ) (r : Option ReleaseData)
      → SyncsAs host so.after t so.upstream new (Ok tt) → SaysStated t u.published answer r → v.feed ≡ following host t new
      → v.published ≡ with_joined u.published r → SoFar host first v
  stated_so u v so t new answer r h (installed release other states is) feed published =
      more_so u v so t new (Ok tt) h feed
      (subst (λ H. Publish (so.shares ++ share_of host so.after t so.upstream new (Ok tt) h ∷ []) H) (sym published)
      (joined so.shares (share_of host so.after t so.upstream new (Ok tt) h) u.published release so.publish (refl, states)))
  stated_so u v so t new answer r h (unchanged last is) feed published =
      more_so u v so t new (Ok tt) h feed
      (subst (λ H. Publish (so.shares ++ share_of host so.after t so.upstream new (Ok tt) h ∷ []) H) (sym published)
      (confirmed so.shares (share_of host so.after t so.upstream new (Ok tt) h) u.published so.publish refl last))
  stated_so u v so t new answer r h (refused e other states of is) feed published =
      more_so u v so t new (Ok tt) h feed
      (subst (λ H. Publish (so.shares ++ share_of host so.after t so.upstream new (Ok tt) h ∷ []) H) (sym published)
      (kept so.shares (share_of host so.after t so.upstream new (Ok tt) h) u.published so.publish (release_refused e states)))
  stated_so u v so t new answer r h (starved is) feed published =
      more_so u v so t new (Ok tt) h feed
      (subst (λ H. Publish (so.shares ++ share_of host so.after t so.upstream new (Ok tt) h ∷ []) H) (sym published)
      (kept so.shares (share_of host so.after t so.upstream new (Ok tt) h) u.published so.publish memory_ran_out))

  -- a sync that ended by a fault published nothing
  fault_so : (u v : Talk) (so : SoFar host first u) (t : MirrorState) (new : UpstreamView) (e : SyncFault) (r : Option ReleaseData)
      → SyncsAs host so.after t so.upstream new (Err e) → r ≡ None → v.feed ≡ following host t new → v.published ≡ with_joined u.published r
      → SoFar host first v
  fault_so u v so t new e r h isnt feed published =
      more_so u v so t new (Err e) h feed
      (subst (λ H. Publish (so.shares ++ share_of host so.after t so.upstream new (Err e) h ∷ []) H)
      (sym (published ∙ ap (λ x. with_joined u.published x) isnt))
      (kept so.shares (share_of host so.after t so.upstream new (Err e) h) u.published so.publish (sync_failed e refl)))

  synced_so : (u v : Talk) (so : SoFar host first u) (t : MirrorState) (new : UpstreamView) (answer : List ℕ) (r : Option ReleaseData)
      → SyncsMirror host so.after t so.upstream new u.published answer r → v.feed ≡ following host t new
      → v.published ≡ with_joined u.published r → SoFar host first v
  synced_so u v so t new answer r (settled h says) feed published = stated_so u v so t new answer r h says feed published
  synced_so u v so t new answer r (faulted e h some is isnt) feed published = fault_so u v so t new e r h isnt feed published
  synced_so u v so t new answer r (faulted_starved e h is isnt) feed published = fault_so u v so t new e r h isnt feed published

  -- a line that makes the history of a mirror grow is one that syncs
  handled_so : (u v : Talk) (so : SoFar host first u) (g : FeedView) (asked : Line) (answer : List ℕ) (r : Option ReleaseData)
      → Handles u.published (following host so.after so.upstream) asked answer r g → v.feed ≡ g → v.published ≡ with_joined u.published r → SoFar host first v
  handled_so u v so (following name t new) asked answer r handles feed published =
      synced_so u v so t new answer r handles.2 (feed ∙ ap (λ x. following x t new) handles.1) published
  handled_so u v so other asked answer r handles feed published = absurd handles

  -- a line that leaves the history as it is
  left_so : (u v : Talk) → SoFar host first u → v.feed ≡ u.feed → v.published ≡ u.published → SoFar host first v
  left_so u v so feed published = record {
    shares = so.shares;
    after = so.after;
    upstream = so.upstream;
    feed = feed ∙ so.feed;
    syncs = so.syncs;
    told = so.told;
    publish = subst (λ H. Publish so.shares H) (sym published) so.publish;
  }

  line_so : (whole : List ReleaseData) (u v : Talk) (asked : Line) (answer : List ℕ) → GetsAnswer whole u asked answer v → SoFar host first u
      → SoFar host first v
  line_so whole u v asked answer (handled r feed handles is) so =
      handled_so u v so feed asked answer r (subst (λ g. Handles u.published g asked answer r feed) so.feed handles) (ap (λ t. t.feed) is)
      (ap (λ t. t.published) is)
  line_so whole u v asked answer (changed event a b is) so = left_so u v so (ap (λ t. t.feed) is) (ap (λ t. t.published) is)
  line_so whole u v asked answer (only_told least a is) so = left_so u v so (ap (λ t. t.feed) is) (ap (λ t. t.published) is)
  line_so whole u v asked answer (unknown a b c is) so = left_so u v so (ap (λ t. t.feed) is) (ap (λ t. t.published) is)
  line_so whole u v asked answer (no_memory a b is) so = left_so u v so (ap (λ t. t.feed) is) (ap (λ t. t.published) is)

  talk_so : (whole : List ReleaseData) (t u : Talk) (asked : List Line) (told : List (List ℕ)) → Talks whole t asked told u → SoFar host first t
      → SoFar host first u
  talk_so whole t u asked told (talk.none v) so = so
  talk_so whole t u asked told (talk.more v w x before said next answer talks goes gets) so =
      line_so whole w x next answer gets (talk_so whole v w before said talks so)

-- the first sync
first_so : (host : List ℕ) (first ready : UpstreamView) (s : MirrorState) (r : ReleaseData) → SyncsAs host empty_mirror s first ready (Ok tt)
    → StatesAfter [] s (Ok r) → SoFar host first (talk_begun (r ∷ []) (following host s ready))
first_so host first ready s r h states =
    let share = share_of host empty_mirror s first ready (Ok tt) h in
    record {
      shares = share ∷ [];
      after = s;
      upstream = ready;
      feed = refl;
      syncs = (h.ends, refl);
      told = subst (λ l. TellsMore first.told ready.told l) (sym (append-nil (h.taken ++ h.untaken))) h.told;
      publish = joined [] share [] r none (refl, states);
    }

-- ---- what the primary had

module _ (laws : Laws) (H : List ReleaseData) (steps : List WorldStep) (xs : List Exchange) (v : SyncWorld) (sound : IsHistory IsSound H) (some : 1 ≤ length H)
    (logs : Logs IsSound IsAnsweredOver Means (world_begun H) steps xs v) where
  -- the place of the last sync
  abbrev ends_at : (least : ℕ) (shares : List Share) → HoldInTurn IsAnsweredOver action_service v.history least shares → ℕ
  ends_at least [] h = least
  ends_at least (share ∷ shares) h = ends_at h.0 shares h.2

  -- the last sync, and those before it
  parted : (least : ℕ) (shares : List Share) (share : Share) → 1 ≤ least
      → (h : HoldInTurn IsAnsweredOver action_service v.history least (shares ++ share ∷ []))
      → (first : HoldInTurn IsAnsweredOver action_service v.history least shares) × (1 ≤ ends_at least shares first)
      × HoldsAt IsAnsweredOver action_service v.history (ends_at least shares first) (ends_at least (shares ++ share ∷ []) h) share.taken share.after
      share.result
  parted least [] share positive h = (tt, positive, h.1)
  parted least (x ∷ rest) share positive h =
      let after = parted h.0 rest share (omega (arith, positive, h.1.from)) h.2 in
      ((h.0, h.1, after.0), after.1, after.2)

  one_had : (before : List ReleaseData) (share : Share) (r : ReleaseData) (from n : ℕ) → 1 ≤ from
      → HoldsAt IsAnsweredOver action_service v.history from n share.taken share.after share.result → IsStatedByShare before share r
      → IsOfPrimary v.history n share r
  one_had before share r from n positive at stated =
      let place : 1 ≤ n = omega (arith, positive, at.from) in
      let long : 1 ≤ length (take n v.history) = omega (arith, place, length-take n v.history, at.upto) in
      let states = stated.1 in
      record {
        is_place = (place, at.upto);
        answered = at.answered stated.0;
        contents = laws.held (take n v.history) share.after states.0 (before_of before) r (laws.go_on H steps xs v n sound logs).1 long (at.holds stated.0)
            states.1 states.2;
      }

  last_had : (before : List ReleaseData) (share : Share) (from n : ℕ) → 1 ≤ from
      → HoldsAt IsAnsweredOver action_service v.history from n share.taken share.after share.result → share.result ≡ Ok tt
      → StatesLast before share.after → IsLastOfPrimary v.history n share before
  last_had before share from n positive at well states =
      let place : 1 ≤ n = omega (arith, positive, at.from) in
      let long : 1 ≤ length (take n v.history) = omega (arith, place, length-take n v.history, at.upto) in
      let history = (laws.go_on H steps xs v n sound logs).1 in
      record {
        is_place = (place, at.upto);
        answered = at.answered well;
        contents = last_is_held (take n v.history) share.after before history
            (laws.stated (take n v.history) share.after history long (at.holds well)) states;
      }

  all_had : (shares : List Share) (history : List ReleaseData) → Publish shares history
      → (h : HoldInTurn IsAnsweredOver action_service v.history (length H) shares)
      → PublishInTurn v.history (length H) shares history (ends_at (length H) shares h)
  all_had shares history none h = none_yet
  all_had shares history (kept before share past publish why) h =
      let parts = parted (length H) before share some h in
      kept_at before share past _ _ (all_had before past publish parts.0) parts.2.from parts.2.upto why
  all_had shares history (confirmed before share past publish well states) h =
      let parts = parted (length H) before share some h in
      confirmed_at before share past _ _ (all_had before past publish parts.0) parts.2.from
      (last_had past share _ _ parts.1 parts.2 well states)
  all_had shares history (joined before share past r publish stated) h =
      let parts = parted (length H) before share some h in
      joined_at before share past r _ _ (all_had before past publish parts.0) parts.2.from stated
      (one_had past share r _ _ parts.1 parts.2 stated)

follows_so : (laws : Laws) (host : List ℕ) (first last : UpstreamView) (u : Talk) (t : MirrorState) (history : List ReleaseData) → SoFar host first u
    → u.published ≡ history → u.feed ≡ following host t last → FollowsPrimary host first last history
follows_so laws host first last u t history so published feed =
    let same : so.upstream ≡ last = cc (sym so.feed ∙ feed) in
    record {
      shares = so.shares;
      after = so.after;
      syncs = so.syncs;
      told = subst (λ x. TellsMore first.told x.told (all_exchanges so.shares)) same so.told;
      publish = subst (λ H. Publish so.shares H) published so.publish;
      holds = λ H steps v sound some logs.
          let turns = laws.in_turn H steps v host so.shares so.after sound some logs so.syncs in (
            ends_at laws H steps (all_taken so.shares) v sound some logs (length H) so.shares turns,
            all_had laws H steps (all_taken so.shares) v sound some logs so.shares history (subst (λ K. Publish so.shares K) published so.publish) turns,
          );
    }

pub follows_primary : (laws : Laws) (host : List ℕ) (first ready last : UpstreamView) (s t : MirrorState) (r : ReleaseData) (history : List ReleaseData)
    (asked : List Line) (told : List (List ℕ)) (u : Talk) → SyncsAs host empty_mirror s first ready (Ok tt) → StatesAfter [] s (Ok r)
    → Talks history (talk_begun (r ∷ []) (following host s ready)) asked told u → u.published ≡ history → u.feed ≡ following host t last
    → FollowsPrimary host first last history
follows_primary laws host first ready last s t r history asked told u h states talks published feed =
    follows_so laws host first last u t history
    (talk_so host first history (talk_begun (r ∷ []) (following host s ready)) u asked told talks (first_so host first ready s r h states)) published feed

-- nothing was talked of
pub follows_first : (laws : Laws) (host : List ℕ) (first ready last : UpstreamView) (s t : MirrorState) (r : ReleaseData)
    → SyncsAs host empty_mirror s first ready (Ok tt) → StatesAfter [] s (Ok r) → following host t last ≡ following host s ready
    → FollowsPrimary host first last (r ∷ [])
follows_first laws host first ready last s t r h states same =
    follows_so laws host first last (talk_begun (r ∷ []) (following host s ready)) t (r ∷ []) (first_so host first ready s r h states) refl (sym same)
