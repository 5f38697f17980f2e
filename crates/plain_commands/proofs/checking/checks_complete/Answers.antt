use Rattle.std.proofs.Common.{ℕ, List, [], Option, refl}
use Rattle.td_base.specs.DoorViews.{DoorView}
use Rattle.td_base.specs.Upstreams.{UpstreamView}
use Rattle.run_ends.specs.Completing.{FoldersAreGiven, IsComplete, NoneRose}
use Rattle.run_ends.specs.Outside.{World}
use Rattle.run_ends.specs.Running.Checking.{Checks}
use Rattle.run_ends.specs.Running.Checking as checking
use Rattle.run_ends.specs.declared.status.Status.{Status}
use Rattle.run_ends.proofs.lemmas.Completing.{done, memory}
use Rattle.run_ends.proofs.lemmas.GivenFolders.{OneFolder, never_stopped}
use Rattle.plain_commands.proofs.checking.checks_complete.Goals as goal

module _ (one : OneFolder) (dirs : List (List ℕ)) (before after : World) (doors : List DoorView) (up : Option UpstreamView)
    (none : NoneRose before after doors up) (k : FoldersAreGiven before.outside.store [] dirs) where
  ends_complete : (is : Status) → Checks dirs before.outside.store after.outside.store before.outside.output after.outside.output is → IsComplete is
  ends_complete is (checking.all H give writes) = done
  ends_complete is (checking.refused H f middle stops writes prints) = absurd (never_stopped one before.outside.store [] dirs H f k stops)
  ends_complete is (checking.cut H begin writes) = absurd (none.output (writes.failed refl))
  ends_complete is (checking.unread H begin writes failed) = absurd (none.store failed)
  ends_complete is (checking.out_of_memory H begin writes) = memory

pub returns : goal.returns
returns c = λ dirs before after doors up is h none k. ends_complete c.one_folder.ensures.one dirs before after doors up none k is h.0
