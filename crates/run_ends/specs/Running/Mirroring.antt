-- How a mirror is served: another server is synced with, what the mirror states is published, and
-- doors are served while an operator lets it sync again.
use Rattle.std.specs.Prelude.{◌≡◌, ◌≢◌, ℕ, ◌+◌, List, [], ◌∷◌, ⊤, Option, None, Some, Ok, Err}
use Rattle.td_base.specs.Views.{Rose}
use Rattle.td_base.specs.DoorViews.{DoorView, NetworkContent, NetworkView}
use Rattle.td_base.specs.Upstreams.{IsNewUpstream, UpstreamView, reached_at}
use Rattle.td_base.specs.declared.report.Role.TheVariants as role
use Rattle.catalogue.specs.Releases.{ReleaseData}
use Rattle.installer.specs.FaultText.{fault_text}
use Rattle.installer.specs.declared.install_fault.InstallFault.{InstallFault}
use Rattle.mirror.specs.FaultText.{fault_text as sync_text}
use Rattle.mirror.specs.declared.sync_fault.SyncFault.{SyncFault}
use Rattle.mirror.specs.declared.sync_fault.SyncFault.TheVariants as sync
use Rattle.sync_core.specs.Mirrors.{MirrorState, empty_mirror}
use Rattle.run_ends.specs.Folders.{IsRefusal}
use Rattle.run_ends.specs.Following.{StatesAfter, SyncsAs}
use Rattle.run_ends.specs.Feeds.{following}
use Rattle.run_ends.specs.MirrorHistory.{FollowsPrimary}
use Rattle.run_ends.specs.Outside.{LeavesStreams, World}
use Rattle.run_ends.specs.Printing.{Printed, refused_line}
use Rattle.run_ends.specs.Running.Server.{CalledTold, OpenedEnds}
use Rattle.run_ends.specs.Site.{site_in}
use Rattle.run_ends.specs.declared.status.Status.{Status}
use Rattle.run_ends.specs.declared.status.Status.TheVariants as status

-- a network that tells its calls was called once, and gave an upstream that tells its exchanges
abbrev pub ReachedTold : Option NetworkContent → Option NetworkContent → List ℕ → UpstreamView
    → Type 0
ReachedTold (Some before) (Some now) address upstream =
    (before.upstreams ≡ now.upstreams + 1)
    × (now ≡ record (reached_at address before) { upstreams = now.upstreams })
    × (upstream.told ≡ Some [])
ReachedTold None None address upstream = ⊤
ReachedTold before now address upstream = ⊥

-- the network was called once, and did not fail, for the server at an address, of which nothing was
-- asked yet
pub record ReachesServer (before now : NetworkView) (address : List ℕ) (upstream : UpstreamView)
    : Type 0 where
  pub steady : now.faults ≡ before.faults
  pub new : IsNewUpstream upstream
  pub told : ReachedTold before.content now.content address upstream

-- a line was printed, and nothing else was done but that the other server was reached and asked
pub record EndsWith (called : Status) (why : List ℕ) (before after : World) (end : Status)
    : Type 0 where
  pub printed : Printed called (refused_line why) before.outside.output after.outside.output end
  pub input : after.outside.input ≡ before.outside.input
  pub spawner : after.spawner ≡ before.spawner

-- how `mirror` ends, with the doors that were served and the other server as it was left
pub data Mirrors (address : List ℕ) (workers : ℕ) (upstream : List ℕ) (before after : World)
    : List DoorView → Option UpstreamView → Status → Type 0 where
  -- the first sync ended well, and what the mirror stated was published and served, as was what it
  -- stated after each later sync that the operator asked for and that published a release
  opened : (reached : NetworkView) (first ready last : UpstreamView) (s t : MirrorState)
      (r : ReleaseData) (history : List ReleaseData) (doors : List DoorView) (end : Status)
      → ReachesServer before.network reached upstream first
      → SyncsAs upstream empty_mirror s first ready (Ok tt) → StatesAfter [] s (Ok r)
      → OpenedEnds (role.Secondary upstream) address workers (r ∷ [])
      (site_in (following upstream s ready) (record before { network = reached }))
      (site_in (following upstream t last) after) history doors end
      → FollowsPrimary upstream first last history
      → Mirrors address workers upstream before after doors (Some last) end
  -- what the mirror stated was refused
  refused : (first last : UpstreamView) (s : MirrorState) (e : InstallFault) (end : Status)
      → ReachesServer before.network after.network upstream first
      → SyncsAs upstream empty_mirror s first last (Ok tt) → StatesAfter [] s (Err e)
      → IsRefusal e → EndsWith status.Refused (fault_text e) before after end
      → Mirrors address workers upstream before after [] (Some last) end
  -- the first sync ended by a fault
  not_synced : (first last : UpstreamView) (s : MirrorState) (e : SyncFault) (end : Status)
      → ReachesServer before.network after.network upstream first
      → SyncsAs upstream empty_mirror s first last (Err e) → e ≢ sync.NoMemory
      → EndsWith status.NotSynced (sync_text e) before after end
      → Mirrors address workers upstream before after [] (Some last) end
  -- the network failed before
  unreached : LeavesStreams before.outside after.outside
      → CalledTold before.network.content after.network.content
      → Rose before.network.faults after.network.faults → after.spawner ≡ before.spawner
      → Mirrors address workers upstream before after [] None status.NoNetwork
  -- memory ran out, at any time
  out_of_memory : (up : Option UpstreamView)
      → Mirrors address workers upstream before after [] up status.NoMemory
