-- What a history grows by while it is served, and the lines that make it grow.
use Rattle.std.specs.Prelude.{◌≡◌, ℕ, List, Option, ⊤}
use Rattle.admission.specs.declared.rules.Chosen.{Chosen}
use Rattle.td_base.specs.Views.{LaterStore, StoreView}
use Rattle.td_base.specs.Upstreams.{UpstreamView}
use Rattle.catalogue.specs.Releases.{ReleaseData}
use Rattle.console.specs.declared.line.Line.{Line}
use Rattle.console.specs.declared.line.Line.TheVariants as line
use Rattle.sync_core.specs.Mirrors.{MirrorState}
use Rattle.run_ends.specs.Folders.{InstallsFolder}
use Rattle.run_ends.specs.Following.{LaterUpstream, SyncsMirror}

-- folders of a store, whose releases are asked some rules, or a mirror that follows another server,
-- which it asks as this host
pub data FeedView : Type 0 where
  folders : List Chosen → StoreView → FeedView
  following : List ℕ → MirrorState → UpstreamView → FeedView

-- any calls were made
abbrev pub LaterFeed : FeedView → FeedView → Type 0
LaterFeed (folders rules old) (folders rules' new) = (rules' ≡ rules) × LaterStore old new
LaterFeed (following host s old) (following host' t new) =
    (host' ≡ host) × LaterUpstream old new
LaterFeed old new = ⊥

-- the lines that make it grow
abbrev pub Grows : FeedView → Line → Type 0
Grows (folders rules store) (line.Install dir) = ⊤
Grows (folders rules store) asked = ⊥
Grows (following host s upstream) asked = asked ≡ line.Sync

-- the line asks that this folder be installed
abbrev pub AsksFolder : Line → List ℕ → Type 0
AsksFolder (line.Install dir) folder = folder ≡ dir
AsksFolder asked folder = ⊥

-- What such a line gets said after these releases, the release that joined them, if one did, and
-- what has become of that by which they grow.
abbrev pub Handles : List ReleaseData → FeedView → Line → List ℕ → Option ReleaseData → FeedView
    → Type 0
Handles H (folders rules old) asked answer joined (folders rules' new) =
    (dir : List ℕ) × AsksFolder asked dir × (rules' ≡ rules) × LaterStore old new
    × InstallsFolder old new rules H dir answer joined
Handles H (following host s old) asked answer joined (following host' t new) =
    Grows (following host s old) asked × (host' ≡ host)
    × SyncsMirror host s t old new H answer joined
Handles H old asked answer joined new = ⊥
