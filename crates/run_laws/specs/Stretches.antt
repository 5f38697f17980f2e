-- The syncs of a run from one list that is asked without a token to the next, with one primary.
use Rattle.std.specs.Prelude.{◌≡◌, ℕ, List, ◌∷◌, ◌++◌}
use Rattle.std.specs.List.{AllByRecursion}
use Rattle.td_base.specs.Upstreams.{UpstreamView}
use Rattle.td_base.specs.declared.upstream.Exchange.{Exchange}
use Rattle.catalogue.specs.Releases.{ReleaseData}
use Rattle.http_client.specs.Requests.{request_text}
use Rattle.mirror.specs.Understanding.{Means}
use Rattle.mirror_world.specs.Runs.{Share, SyncsInTurn}
use Rattle.sync_core.specs.Mirrors.{MirrorState, empty_mirror}
use Rattle.sync_laws.specs.Restarts.{BeginsAgain}
use Rattle.run_laws.specs.Runs.{FollowsPrimary, IsOfPrimary, IsStatedByShare}

-- Of the syncs of a run these are some: a first, within which the mirror asks for a list without a
-- token, with the exchanges from there on, and those after it.
pub record IsStretch (host : List ℕ) (first last : UpstreamView) (history : List ReleaseData)
    (follows : FollowsPrimary host first last history) (share : Share) (stretch : List Share)
    (rest : List Exchange) : Type 0 where
  pub before : List Share
  pub after : List Share
  pub parts : follows.shares ≡ before ++ share ∷ (stretch ++ after)
  pub state : MirrorState
  pub reaches : SyncsInTurn (request_text host) Means empty_mirror before state
  pub earlier : List Exchange
  pub again : BeginsAgain host state share earlier rest

-- each release that one of the syncs published is one of a primary with this history
abbrev pub ServeItsReleases : List ReleaseData → List Share → Type 0
ServeItsReleases G shares =
    AllByRecursion
    (λ share. (served : List ReleaseData) (r : ReleaseData) → IsStatedByShare served share r
    → (place : ℕ) × IsOfPrimary G place share r)
    shares
