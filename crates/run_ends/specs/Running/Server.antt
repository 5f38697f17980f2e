-- How doors are served beside a talk with an operator, who installs further releases meanwhile.
use Rattle.std.specs.Prelude.{◌≡◌, ℕ, ◌≤◌, ◌⊎◌, List, [], ◌∷◌, ◌++◌, length, map, take, All, Bool}
use Rattle.std.specs.Prelude.{true, false, ◌||◌, ⊤, Option, None, Some, if◌then◌else◌}
use Rattle.admission.specs.declared.rules.Chosen.{Chosen}
use Rattle.std.specs.List.{AllByRecursion}
use Rattle.td_base.specs.Views.{LaterStore, Rose, StoreView}
use Rattle.td_base.specs.DoorViews.{DoorContent, DoorView, Finished, NetworkContent, NetworkView}
use Rattle.td_base.specs.Doors.{IsNewDoor, called, new_content, opened_at}
use Rattle.td_base.specs.declared.door.DoorAnswer.TheVariants as answer
use Rattle.td_base.specs.declared.report.Role.{Role}
use Rattle.td_base.specs.declared.report.Role.TheVariants as role
use Rattle.catalogue.specs.Histories.{IsHistory}
use Rattle.catalogue.specs.Releases.{ReleaseData}
use Rattle.connection.specs.DoorWorks.{FailedFew, NoneComes, ServedConns, places_of}
use Rattle.connection.specs.FaultCounts.{RoseTimes}
use Rattle.connection.specs.Served.{NeverFall}
use Rattle.connection.specs.declared.door_work.TheConstants.{MOST_FAILURES}
use Rattle.run_ends.specs.Folders.{FoldersGive, ServesNothing}
use Rattle.run_ends.specs.Feeds.{folders}
use Rattle.run_ends.specs.Outside.{World}
use Rattle.run_ends.specs.Site.{SiteView, site_in}
use Rattle.run_ends.specs.Talking.{AnswersOperator}
use Rattle.run_ends.specs.declared.status.Status.{Status}
use Rattle.run_ends.specs.declared.status.Status.TheVariants as status
use Rattle.run_ends.specs.declared.talk_end.TalkEnd.{TalkEnd}
use Rattle.run_ends.specs.declared.talk_end.TalkEnd.TheVariants as talk
use Rattle.zone_meaning.specs.Sound.{IsSound}

-- ---- doors

-- Of a door that tells its connections: those that it gave were handed back, all of them and in
-- order, and each was served over the history. No place comes before so many releases, and places
-- never fall, also from one connection to the next.
pub record ServesInputs (server : Role) (least : ℕ) (H : List ReleaseData)
    (before now : DoorContent) : Type 0 where
  pub inputs : List (List ℕ)
  pub finished : List Finished
  pub given : now.given ≡ before.given ++ inputs
  pub coming : before.coming ≡ inputs ++ now.coming
  pub finished_is : now.finished ≡ before.finished ++ finished
  pub served : ServedConns H server inputs finished
  pub first : AllByRecursion (λ p. least ≤ p) (places_of finished)
  pub rising : NeverFall (places_of finished)

abbrev pub ConnsTold : Role → ℕ → List ReleaseData → Option DoorContent → Option DoorContent
    → Type 0
ConnsTold server least H (Some before) (Some now) = ServesInputs server least H before now
ConnsTold server least H None None = ⊤
ConnsTold server least H before now = ⊥

-- no connection is still to come, or none waited
abbrev pub IsDone : DoorView → Type 0
IsDone door =
    ((door.last ≡ Some answer.Ended) × NoneComes door) ⊎ (door.last ≡ Some answer.Idle)

-- a door was served until it was done, having failed too few times to be worn, or until it had
-- failed so many times, of all its calls, that it is worn
pub record ServesDoor (server : Role) (least : ℕ) (H : List ReleaseData) (before now : DoorView)
    (worn : Bool) : Type 0 where
  pub told : ConnsTold server least H before.content now.content
  pub done : worn ≡ false → IsDone now × FailedFew before.faults now.faults
  pub failed : worn ≡ true → RoseTimes MOST_FAILURES before.faults now.faults

-- each door, in order; whether one of them is worn
pub data ServesDoors (server : Role) (least : ℕ) (H : List ReleaseData)
    : List DoorView → List DoorView → Bool → Type 0 where
  no_door : ServesDoors server least H [] [] false
  one_more : (before now : DoorView) (bs ns : List DoorView) (one others : Bool)
      → ServesDoor server least H before now one → ServesDoors server least H bs ns others
      → ServesDoors server least H (before ∷ bs) (now ∷ ns) (one || others)

-- ---- the network

abbrev pub OpenedTold : Option NetworkContent → Option NetworkContent → List ℕ → List DoorView
    → Type 0
OpenedTold (Some before) (Some now) address doors =
    (now ≡ opened_at address (length doors) before)
    × (map (λ d. d.content) doors
    ≡ map (λ inputs. Some (new_content inputs)) (take (length doors) before.doors))
OpenedTold None None address doors = ⊤
OpenedTold before now address doors = ⊥

-- a network that tells its calls was called once, and gave nothing
abbrev pub CalledTold : Option NetworkContent → Option NetworkContent → Type 0
CalledTold (Some before) (Some now) = now ≡ called before
CalledTold None None = ⊤
CalledTold before now = ⊥

-- the network was called once, for so many doors at an address, did not fail, and gave these, which
-- are new
pub record OpensDoors (before now : NetworkView) (address : List ℕ) (number : ℕ)
    (doors : List DoorView) : Type 0 where
  pub many : length doors ≡ number
  pub new : All IsNewDoor doors
  pub told : OpenedTold before.content now.content address doors
  pub steady : now.faults ≡ before.faults

-- ---- the end of a run

-- the status by how a talk beside workers ended, and whether a door of them is worn
abbrev pub status_for : TalkEnd → Bool → Status
status_for talk.Quit worn = if worn then status.NoNetwork else status.Done
status_for talk.InputEnded worn = if worn then status.NoNetwork else status.Done
status_for talk.NotRead worn = status.NotRead
status_for talk.NotWritten worn = status.NotWritten

-- how serving doors ends, after an opening, with the history of the run, which begins with that
pub data OpenedEnds (server : Role) (address : List ℕ) (workers : ℕ) (opening : List ReleaseData)
    (before after : SiteView) : List ReleaseData → List DoorView → Status → Type 0 where
  -- with the end of the talk, once the workers were done: the doors that the network gave were
  -- served over the history of the run, which grows by the releases that came of the operator's
  -- lines, and none was answered from before the opening's last; each release of that history is
  -- sound and may follow those before it; every worker was started
  served : (history : List ReleaseData) (given doors : List DoorView) (ended : TalkEnd)
      (worn : Bool)
      → IsHistory IsSound history
      → AnswersOperator opening history before.console after.console ended
      → OpensDoors before.network after.network address workers given
      → after.spawner ≡ before.spawner
      → ServesDoors server (length opening) history given doors worn
      → OpenedEnds server address workers opening before after history doors
      (status_for ended worn)
  -- before anything was read or written, because the network failed
  no_network : after.console ≡ before.console
      → CalledTold before.network.content after.network.content
      → Rose before.network.faults after.network.faults
      → OpenedEnds server address workers opening before after opening [] status.NoNetwork
  -- before anything was read or written, because a worker was not started
  not_started : (given : List DoorView) → after.console ≡ before.console
      → OpensDoors before.network after.network address workers given
      → Rose before.spawner after.spawner
      → OpenedEnds server address workers opening before after opening [] status.NotStarted
  -- at any time, because memory ran out
  out_of_memory : OpenedEnds server address workers opening before after opening [] status.NoMemory

-- how `serve` ends
pub data Serves (address : List ℕ) (workers : ℕ) (rules : List Chosen) (dirs : List (List ℕ))
    (before after : World) : List DoorView → Status → Type 0 where
  -- over the doors of an address, once the folders have given their releases
  opened : (opening history : List ReleaseData) (ready : StoreView) (doors : List DoorView)
      (end : Status)
      → FoldersGive before.outside.store.files rules dirs opening
      → LaterStore before.outside.store ready
      → OpenedEnds role.Primary address workers opening (site_in (folders rules ready) before)
      (site_in (folders rules after.outside.store) after) history doors end
      → Serves address workers rules dirs before after doors end
  nothing : (end : Status) → ServesNothing rules dirs before.outside after.outside end
      → after.network ≡ before.network → after.spawner ≡ before.spawner
      → Serves address workers rules dirs before after [] end
