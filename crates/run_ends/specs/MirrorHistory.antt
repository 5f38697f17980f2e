-- What the syncs of a mirror publish, and what the primary had of it.
use Rattle.std.specs.Prelude.{◌≡◌, ◌≤◌, ℕ, List, [], ◌∷◌, ◌++◌, length, take, Ok, Err}
use Rattle.std.specs.Option.{IsSomeAnd}
use Rattle.td_base.specs.Upstreams.{TellsMore, UpstreamView}
use Rattle.td_base.specs.declared.upstream.Exchange.{Exchange}
use Rattle.catalogue.specs.Histories.{IsHistory, last_release}
use Rattle.catalogue.specs.Lookups.{zones_of}
use Rattle.catalogue.specs.Releases.{ReleaseData}
use Rattle.http_client.specs.Requests.{request_text}
use Rattle.installer.specs.declared.install_fault.InstallFault.{InstallFault}
use Rattle.mirror.specs.Understanding.{Means}
use Rattle.mirror.specs.declared.sync_fault.SyncFault.{SyncFault}
use Rattle.mirror_world.specs.Answers.{IsAnsweredOver}
use Rattle.mirror_world.specs.Logs.{Logs}
use Rattle.mirror_world.specs.Runs.{LastIsOver, Share, SyncsInTurn, all_taken}
use Rattle.sync_core.specs.Mirrors.{MirrorState, empty_mirror}
use Rattle.sync_world.specs.Hearing.{action_service}
use Rattle.sync_world.specs.Primaries.{IsPlace}
use Rattle.sync_world.specs.Worlds.{SyncWorld, WorldStep, world_begun}
use Rattle.run_ends.specs.Following.{StatesAfter, StatesLast}
use Rattle.zone_meaning.specs.Sound.{IsSound}

-- all exchanges of some syncs, in order
abbrev pub all_exchanges : List Share → List Exchange
all_exchanges [] = []
all_exchanges (share ∷ shares) = (share.taken ++ share.untaken) ++ all_exchanges shares

-- a release is what the mirror stated at the end of a sync that ended well
abbrev pub IsStatedByShare : List ReleaseData → Share → ReleaseData → Type 0
IsStatedByShare H share r = (share.result ≡ Ok tt) × StatesAfter H share.after (Ok r)

-- why a sync left the history as it was, although it may not have the last release: it failed, what
-- the mirror states was refused, or memory ran out
pub data KeepsHistory (H : List ReleaseData) (share : Share) : Type 0 where
  sync_failed : (e : SyncFault) → share.result ≡ Err e → KeepsHistory H share
  release_refused : (e : InstallFault) → StatesAfter H share.after (Err e) → KeepsHistory H share
  memory_ran_out : KeepsHistory H share

-- some syncs, and the releases that were published by them; a sync that ended well and states the
-- last of these confirms it
pub data Publish : List Share → List ReleaseData → Type 0 where
  none : Publish [] []
  kept : (shares : List Share) (share : Share) (H : List ReleaseData)
      → Publish shares H → KeepsHistory H share → Publish (shares ++ share ∷ []) H
  confirmed : (shares : List Share) (share : Share) (H : List ReleaseData)
      → Publish shares H → share.result ≡ Ok tt → StatesLast H share.after
      → Publish (shares ++ share ∷ []) H
  joined : (shares : List Share) (share : Share) (H : List ReleaseData) (r : ReleaseData)
      → Publish shares H → IsStatedByShare H share r → Publish (shares ++ share ∷ []) (H ++ r ∷ [])

-- it has the zones, and so their tags, of the release at a place of a primary with this history,
-- which answered the last exchange of the sync, the empty list of changes
pub record IsOfPrimary (G : List ReleaseData) (place : ℕ) (share : Share) (r : ReleaseData)
    : Type 0 where
  pub is_place : IsPlace G place
  pub answered : LastIsOver IsAnsweredOver action_service (take place G) share.taken
  pub contents : r.contents ≡ zones_of (take place G)

-- the last of the releases has the zones of that place, which answered the last exchange
pub record IsLastOfPrimary (G : List ReleaseData) (place : ℕ) (share : Share)
    (H : List ReleaseData) : Type 0 where
  pub is_place : IsPlace G place
  pub answered : LastIsOver IsAnsweredOver action_service (take place G) share.taken
  pub contents : IsSomeAnd (last_release H) (λ r. r.contents ≡ zones_of (take place G))

-- Some syncs with a primary, each at a place of its history that is not before those of the syncs
-- before it, and the releases that were published by them, each that of the primary at the place of
-- its own sync. A sync that confirms the last release finds it so at its own place. The first place
-- is not before `least`; the last is the number at the end.
pub data PublishInTurn (G : List ReleaseData) (least : ℕ)
    : List Share → List ReleaseData → ℕ → Type 0 where
  none_yet : PublishInTurn G least [] [] least
  kept_at : (shares : List Share) (share : Share) (H : List ReleaseData) (before place : ℕ)
      → PublishInTurn G least shares H before → before ≤ place → place ≤ length G
      → KeepsHistory H share → PublishInTurn G least (shares ++ share ∷ []) H place
  confirmed_at : (shares : List Share) (share : Share) (H : List ReleaseData) (before place : ℕ)
      → PublishInTurn G least shares H before → before ≤ place
      → IsLastOfPrimary G place share H → PublishInTurn G least (shares ++ share ∷ []) H place
  joined_at : (shares : List Share) (share : Share) (H : List ReleaseData) (r : ReleaseData)
      (before place : ℕ)
      → PublishInTurn G least shares H before → before ≤ place → IsStatedByShare H share r
      → IsOfPrimary G place share r
      → PublishInTurn G least (shares ++ share ∷ []) (H ++ r ∷ []) place

-- The told exchanges are those of some syncs, one after another from a mirror that holds nothing,
-- which published the history. In every world of a primary whose answers are those that were taken,
-- each release of the history is one of the primary's, at places that never fall.
pub record FollowsPrimary (host : List ℕ) (first last : UpstreamView)
    (history : List ReleaseData) : Type 0 where
  pub shares : List Share
  pub after : MirrorState
  pub syncs : SyncsInTurn (request_text host) Means empty_mirror shares after
  pub told : TellsMore first.told last.told (all_exchanges shares)
  pub publish : Publish shares history
  pub holds : (H : List ReleaseData) (steps : List WorldStep) (v : SyncWorld)
      → IsHistory IsSound H → 1 ≤ length H
      → Logs IsSound IsAnsweredOver Means (world_begun H) steps (all_taken shares) v
      → (place : ℕ) × PublishInTurn v.history (length H) shares history place
