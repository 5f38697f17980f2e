-- What the calls below a mirror's run come to.
use Rattle.std.specs.Prelude.{◌≡◌, ◌≢◌, ℕ, List, [], ◌∷◌, Ok, Err}
use Rattle.td_base.specs.DoorViews.{DoorView}
use Rattle.td_base.specs.Upstreams.{UpstreamView}
use Rattle.td_base.specs.declared.report.Role.TheVariants as role
use Rattle.catalogue.specs.Releases.{ReleaseData}
use Rattle.installer.specs.FaultText.{fault_text}
use Rattle.installer.specs.declared.install_fault.InstallFault.{InstallFault}
use Rattle.mirror.specs.FaultText.{fault_text as sync_text}
use Rattle.mirror.specs.declared.sync_fault.SyncFault.{SyncFault}
use Rattle.mirror.specs.declared.sync_fault.SyncFault.TheVariants as sync
use Rattle.sync_core.specs.Mirrors.{MirrorState}
use Rattle.run_ends.specs.Folders.{IsRefusal}
use Rattle.run_ends.specs.Following.{StatesAfter, SyncsAs}
use Rattle.run_ends.specs.Feeds.{following}
use Rattle.run_ends.specs.Printing.{Printed, refused_line}
use Rattle.run_ends.specs.Running.Server.{OpenedEnds}
use Rattle.run_ends.specs.Site.{LaterSite, SiteView}
use Rattle.run_ends.specs.declared.status.Status.{Status}
use Rattle.run_ends.specs.declared.status.Status.TheVariants as status

-- a refusal was printed, and nothing else was done since the mirror synced
pub record TellsWhy (called : Status) (why : List ℕ) (before after : SiteView) (end : Status)
    : Type 0 where
  pub printed : Printed called (refused_line why) before.console.output after.console.output end
  pub feed : after.console.feed ≡ before.console.feed
  pub input : after.console.input ≡ before.console.input
  pub network : after.network ≡ before.network
  pub spawner : after.spawner ≡ before.spawner

-- what a settled mirror states was published and served, or refused
pub data StatedEnds (host address : List ℕ) (workers : ℕ) (s : MirrorState)
    (before after : SiteView) : List DoorView → Status → Type 0 where
  opened : (r : ReleaseData) (history : List ReleaseData) (doors : List DoorView) (end : Status)
      → StatesAfter [] s (Ok r)
      → OpenedEnds (role.Secondary host) address workers (r ∷ []) before after history doors end
      → StatedEnds host address workers s before after doors end
  refused : (e : InstallFault) (end : Status) → StatesAfter [] s (Err e) → IsRefusal e
      → TellsWhy status.Refused (fault_text e) before after end
      → StatedEnds host address workers s before after [] end
  out_of_memory : StatedEnds host address workers s before after [] status.NoMemory

pub record ServesStated (host address : List ℕ) (workers : ℕ) (s : MirrorState)
    (before after : SiteView) (doors : List DoorView) (is : Status) : Type 0 where
  pub later : LaterSite before after
  pub ends : StatedEnds host address workers s before after doors is

-- the mirror was synced for the first time, and what it states was served, or the sync's fault told
pub data FollowEnds (host address : List ℕ) (workers : ℕ) (s : MirrorState) (first : UpstreamView)
    (before after : SiteView) : List DoorView → Status → Type 0 where
  settled : (t : MirrorState) (ready : UpstreamView) (doors : List DoorView) (end : Status)
      → SyncsAs host s t first ready (Ok tt)
      → StatedEnds host address workers t
      (record before { console = record before.console { feed = following host t ready } }) after
      doors end
      → FollowEnds host address workers s first before after doors end
  not_synced : (t : MirrorState) (last : UpstreamView) (e : SyncFault) (end : Status)
      → SyncsAs host s t first last (Err e) → e ≢ sync.NoMemory
      → TellsWhy status.NotSynced (sync_text e)
      (record before { console = record before.console { feed = following host t last } }) after
      end
      → FollowEnds host address workers s first before after [] end
  out_of_memory : FollowEnds host address workers s first before after [] status.NoMemory

pub record FollowsOn (host address : List ℕ) (workers : ℕ) (s : MirrorState)
    (first : UpstreamView) (before after : SiteView) (doors : List DoorView) (is : Status)
    : Type 0 where
  pub later : LaterSite before after
  pub ends : FollowEnds host address workers s first before after doors is
