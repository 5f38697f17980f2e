use Rattle.std.proofs.Common.{ℕ, List, [], Option}
use Rattle.td_base.specs.DoorViews.{DoorView}
use Rattle.td_base.specs.Upstreams.{UpstreamView}
use Rattle.td_base.specs.Views.{Rose}
use Rattle.catalogue.specs.Releases.{ReleaseData}
use Rattle.td_base.specs.declared.report.End.{End}
use Rattle.td_base.specs.declared.report.End.TheVariants as ended
use Rattle.run_ends.specs.Completing.{FoldersAreGiven, IsComplete, NoneRose}
use Rattle.run_ends.specs.Outside.{Outside, World}
use Rattle.run_ends.specs.Running.Answering.{Answers, ServesStreams, end_status}
use Rattle.run_ends.specs.Running.Answering as answering
use Rattle.run_ends.specs.declared.status.Status.{Status}
use Rattle.run_ends.proofs.lemmas.Completing.{done, memory}
use Rattle.run_ends.proofs.lemmas.GivenFolders.{OneFolder, nothing_complete}
use Rattle.plain_commands.proofs.answering.answers_complete.Goals as goal

streams_complete : (H : List ReleaseData) (before after : Outside) (end : End) → ServesStreams H before after end
    → (Rose before.input.faults after.input.faults → ⊥) → (Rose before.output.faults after.output.faults → ⊥) → IsComplete (end_status end)
streams_complete H before after ended.Closed k read wrote = done
streams_complete H before after ended.ReadFault k read wrote = absurd (read ((k.served).ends).cause.once.least)
streams_complete H before after ended.WriteFault k read wrote = absurd (wrote ((k.served).ends).cause.once.least)
streams_complete H before after ended.NoMemory k read wrote = memory

module _ (one : OneFolder) (dirs : List (List ℕ)) (before after : World) (doors : List DoorView) (up : Option UpstreamView)
    (none : NoneRose before after doors up) (k : FoldersAreGiven before.outside.store [] dirs) where
  ends_complete : (is : Status) → Answers dirs before.outside after.outside is → IsComplete is
  ends_complete is (answering.served H end give serves) =
      streams_complete H before.outside after.outside end serves none.input none.output
  ends_complete is (answering.nothing end ends) = nothing_complete one [] dirs before.outside after.outside is ends k none.store

pub returns : goal.returns
returns c = λ dirs before after doors up is h none k. ends_complete c.one_folder.ensures.one dirs before after doors up none k is h.0
