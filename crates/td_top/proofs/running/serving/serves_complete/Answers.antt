use Rattle.std.proofs.Common.{ℕ, List, Option}
use Rattle.admission.specs.declared.rules.Chosen.{Chosen}
use Rattle.td_base.specs.DoorViews.{DoorView}
use Rattle.td_base.specs.Upstreams.{UpstreamView}
use Rattle.run_ends.specs.Completing.{FoldersAreGiven, IsComplete, NoneRose}
use Rattle.run_ends.specs.Outside.{World}
use Rattle.run_ends.specs.Running.Server.{Serves}
use Rattle.run_ends.specs.Running.Server as server
use Rattle.run_ends.specs.declared.status.Status.{Status}
use Rattle.run_ends.proofs.lemmas.Completing.{opened_complete}
use Rattle.run_ends.proofs.lemmas.GivenFolders.{OneFolder, nothing_complete}
use Rattle.td_top.proofs.running.serving.serves_complete.Goals as goal

module _ (one : OneFolder) (address : List ℕ) (workers : ℕ) (rules : List Chosen) (dirs : List (List ℕ)) (before after : World)
    (up : Option UpstreamView) (k : FoldersAreGiven before.outside.store rules dirs) where
  ends_complete : (doors : List DoorView) (is : Status) → Serves address workers rules dirs before after doors is → NoneRose before after doors up
      → IsComplete is
  ends_complete doors is (server.opened opening history ready ds end give later ends) none =
      opened_complete _ address workers opening _ _ history doors is ends none.input none.output none.network none.spawner none.served
  ends_complete doors is (server.nothing end ends network spawner) none =
      nothing_complete one rules dirs before.outside after.outside is ends k none.store

pub returns : goal.returns
returns c = λ address workers rules dirs before after doors up is h none k.
    ends_complete c.one_folder.ensures.one address workers rules dirs before after up k doors is h.0 none
