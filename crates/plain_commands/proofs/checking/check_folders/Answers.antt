use Rattle.std.proofs.Common.{ℕ, List, Some}
use Rattle.std.proofs.lemmas.List.{take_all}
use Rattle.run_ends.specs.Commands.{check}
use Rattle.run_ends.specs.Outside.{Outside}
use Rattle.run_ends.specs.Running.{RunsAlone}
use Rattle.run_ends.specs.declared.status.Status.{Status}
use Rattle.plain_commands.proofs.Checked.{ChecksFolders, checked_more, checked_none, ends_checked, ends_stopped}
use Rattle.run_ends.proofs.lemmas.Endings.{EndsLater}
use Rattle.run_ends.proofs.lemmas.Runs.{runs_alone}
use Rattle.plain_commands.proofs.checking.check_folders.Goals as goal

checked : (dirs : List (List ℕ)) (before after : Outside) (end : Status) → EndsLater (ChecksFolders dirs) before after end
    → RunsAlone (Some (check dirs)) before after end
checked dirs before after end = runs_alone (ChecksFolders dirs) (Some (check dirs)) before after end (λ n r ends nobody. (ends.0, ends.1, nobody))

pub loop-folder-init : goal.loop-folder-init
loop-folder-init g c = checked_none _ _

pub returns-in-Err : goal.returns-in-Err
returns-in-Err g c = λ input.
    let so = c.loop-folder.invariant in
    checked c.args.folders.now _ _ _
    (ends_stopped c.args.folders.now c.loop-folder.folder-index c.folder-item.result c.loop-folder.last _ _ _ input _ _ _ c.in-Err.status
    c.loop-folder-test.true c.folder-item.is so (rw c.as_slice.ensures at (c.in-Err.ensures so.history so.stands)))

pub loop-folder-preserved : goal.loop-folder-preserved
loop-folder-preserved g c =
    let so = c.loop-folder.invariant in
    checked_more c.args.folders.now c.loop-folder.folder-index c.folder-item.result c.loop-folder.last c.in-Ok.next _ _ _ _ _ _
    c.loop-folder-test.true c.folder-item.is so (rw c.as_slice.ensures at (c.in-Ok.ensures so.history so.stands))

pub returns : goal.returns
returns g c = λ input.
    checked c.args.folders.now _ _ _
    (ends_checked c.args.folders.now _ c.loop-folder.last _ _ input _ _ (take_all _ c.args.folders.now c.loop-folder-test.false) c.loop-folder.invariant)
