-- How a run ends, command by command, over all that is outside it.
pub mod Answering
pub mod CalendarMirroring
pub mod Checking
pub mod Loading
pub mod Mirroring
pub mod Server
pub mod StateLine
use Rattle.std.specs.Prelude.{◌≡◌, ℕ, List, [], ⊤, Option, None, Some}
use Rattle.td_base.specs.DoorViews.{DoorView, NetworkView}
use Rattle.td_base.specs.Upstreams.{UpstreamView}
use Rattle.mirror_world.specs.Answers.{IsAnsweredOver}
use Rattle.calendar_world.specs.Endings.{IsCalendarAnsweredOver}
use Rattle.run_ends.specs.Commands.{PlainCommand, answer, at, calmirror, check, load, mirror, serve}
use Rattle.run_ends.specs.Commands.{usage_line}
use Rattle.run_ends.specs.Completing.{FoldersAreGiven, IsComplete, NoneRose, PrimarySettles}
use Rattle.run_ends.specs.Outside.{LaterWorld, Outside, World, world}
use Rattle.run_ends.specs.Printing.{Printed}
use Rattle.run_ends.specs.Running.Answering.{Answers}
use Rattle.run_ends.specs.Running.CalendarMirroring.{MirrorsCalendars}
use Rattle.run_ends.specs.Running.Checking.{Checks}
use Rattle.run_ends.specs.Running.Loading.{LoadEnds}
use Rattle.run_ends.specs.Running.Mirroring.{Mirrors}
use Rattle.run_ends.specs.Running.Server.{Serves}
use Rattle.run_ends.specs.Running.StateLine.{ShowsState, ZoneIsGiven}
use Rattle.run_ends.specs.declared.status.Status.{Status}
use Rattle.run_ends.specs.declared.status.Status.TheVariants as status

-- a status by its number
abbrev pub number_of : Status → ℕ
number_of status.Done = 0
number_of status.Usage = 1
number_of status.Refused = 2
number_of status.NotRead = 3
number_of status.NotWritten = 4
number_of status.NotStarted = 5
number_of status.NoNetwork = 6
number_of status.NotSynced = 7
number_of status.NoMemory = 70

-- no door was served, no server followed, and the network and the spawner were left alone
pub record ServesNobody (before after : World) (doors : List DoorView) (up : Option UpstreamView)
    : Type 0 where
  pub network : after.network ≡ before.network
  pub spawner : after.spawner ≡ before.spawner
  pub no_door : doors ≡ []
  pub no_server : up ≡ None

-- how a run ends: with the doors that were served, with the server that was followed, if there was
-- one, and with a status
abbrev pub RunEnds : Option PlainCommand → World → World → List DoorView → Option UpstreamView
    → Status
    → Type 0
RunEnds None before after doors up end =
    Printed status.Usage usage_line before.outside.output after.outside.output end
    × (after.outside.input ≡ before.outside.input) × ServesNobody before after doors up
RunEnds (Some (answer dirs)) before after doors up end =
    Answers dirs before.outside after.outside end × ServesNobody before after doors up
RunEnds (Some (check dirs)) before after doors up end =
    Checks dirs before.outside.store after.outside.store
    before.outside.output after.outside.output end
    × (after.outside.input ≡ before.outside.input) × ServesNobody before after doors up
RunEnds (Some (at path m)) before after doors up end =
    ShowsState path m before.outside after.outside end × ServesNobody before after doors up
RunEnds (Some (load n)) before after doors up end =
    LoadEnds n before.outside after.outside end
    × (after.outside.store ≡ before.outside.store) × ServesNobody before after doors up
RunEnds (Some (serve address workers rules dirs)) before after doors up end =
    Serves address workers rules dirs before after doors end × (up ≡ None)
RunEnds (Some (mirror address workers upstream)) before after doors up end =
    Mirrors address workers upstream before after doors up end
    × (after.outside.store ≡ before.outside.store)
RunEnds (Some (calmirror upstream start last)) before after doors up end =
    MirrorsCalendars upstream start last before after up end × (doors ≡ [])
    × (after.outside.store ≡ before.outside.store) × (after.spawner ≡ before.spawner)

-- a run ended, and nothing else was done to the outside than calls do
pub record RunEndsLater (asked : Option PlainCommand) (before after : World) (doors : List DoorView)
    (up : Option UpstreamView) (end : Status) : Type 0 where
  pub ends : RunEnds asked before after doors up end
  pub later : LaterWorld before after

-- the same as the clauses of calls tell it, which no proof by search opens
unfoldable pub HasRun : Option PlainCommand → World → World → List DoorView → Option UpstreamView
    → Status
    → Type 0
HasRun asked before after doors up end = RunEndsLater asked before after doors up end

-- a run ended as one that is asked for so does
abbrev pub RunsAs : Option PlainCommand → World → World → List DoorView → Option UpstreamView
    → Status
    → Type 0
RunsAs spelled before after doors up end =
    (asked : Option PlainCommand) → spelled ≡ asked → HasRun asked before after doors up end

-- the same, whatever the network and the spawner are, which were left alone
abbrev pub RunsAlone : Option PlainCommand → Outside → Outside → Status → Type 0
RunsAlone spelled before after end =
    (network : NetworkView) (spawner : ℕ)
    → RunsAs spelled (world before network spawner) (world after network spawner) [] None end

-- ---- runs that are complete

-- what a command needs of the outside to do all that was asked
abbrev pub IsGiven : PlainCommand → World → Option UpstreamView → Type 0
IsGiven (answer dirs) before up = FoldersAreGiven before.outside.store [] dirs
IsGiven (check dirs) before up = FoldersAreGiven before.outside.store [] dirs
IsGiven (at path m) before up = ZoneIsGiven before.outside.store path
IsGiven (load n) before up = ⊤
IsGiven (serve address workers rules dirs) before up =
    FoldersAreGiven before.outside.store rules dirs
IsGiven (mirror address workers upstream) before up = PrimarySettles IsAnsweredOver up
IsGiven (calmirror upstream start last) before up = PrimarySettles IsCalendarAnsweredOver up

-- where no count of faults rose, and that is there, all was done, or memory ran out
abbrev pub Completes : PlainCommand → Type 0
Completes asked =
    (before after : World) (doors : List DoorView) (up : Option UpstreamView) (end : Status)
    → RunEnds (Some asked) before after doors up end → NoneRose before after doors up
    → IsGiven asked before up → IsComplete end
