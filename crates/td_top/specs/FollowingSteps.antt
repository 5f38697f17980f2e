-- What publishing what a mirror states comes to.
use Rattle.std.specs.Prelude.{◌≡◌, ◌≢◌, ℕ, List, [], ◌∷◌, Option, Result, Ok, Err}
use Rattle.td_base.specs.Upstreams.{UpstreamView}
use Rattle.catalogue.specs.Holdings.{history_of}
use Rattle.catalogue.specs.Releases.{ReleaseData}
use Rattle.catalogue.specs.declared.holding.Catalogue.{Catalogue}
use Rattle.installer.specs.declared.install_fault.InstallFault.{InstallFault}
use Rattle.installer.specs.declared.install_fault.InstallFault.TheVariants as install
use Rattle.release_check.specs.declared.check_fault.CheckFault.TheVariants as fault
use Rattle.sync_core.specs.Mirrors.{MirrorState}
use Rattle.run_ends.specs.Folders.{IsRefusal}
use Rattle.run_ends.specs.Following.{SaysStated, StatesAfter}
use Rattle.run_ends.specs.Feeds.{FeedView, following}
use Rattle.run_ends.specs.Sessions.{LaterSession}
use Rattle.run_ends.specs.Operator.{heard_by, with_joined}
use Rattle.td_top.specs.declared.mirror_feed.Follow.{Follow}
use Rattle.run_ends.specs.declared.session.Session.{Session}

-- what is seen of a mirror, and of the server that it follows
abbrev pub follow_of : {U : Type 0} → (U → UpstreamView) → Follow U → FeedView
follow_of upstream f = following f.host.now f.mirror (upstream f.upstream)

-- what the mirror states was published as a first release, or it was not
abbrev pub OpensStated : MirrorState → Result (List (Catalogue (List ℕ))) InstallFault → Type 0
OpensStated s (Ok list) =
    (r : ReleaseData) × StatesAfter [] s (Ok r) × (history_of list ≡ r ∷ [])
OpensStated s (Err e) =
    (e ≢ install.Check fault.ReadFault) × (e ≢ install.Check fault.NoMemory)
    × (IsRefusal e → StatesAfter [] s (Err e))

-- what the mirror states was published after what was published before, or it was not, and this is
-- what is said of it
pub record PublishesStated (s : MirrorState) (before now : Session) (answer : List ℕ)
    : Type 0 where
  pub later : LaterSession before now
  pub joined : Option ReleaseData
  pub says : SaysStated s (history_of before.installer.list) answer joined
  pub grown : history_of now.installer.list
      ≡ with_joined (history_of before.installer.list) joined
  pub heard : now.installer.subscribers
      ≡ heard_by before.installer.subscribers (history_of before.installer.list) joined
