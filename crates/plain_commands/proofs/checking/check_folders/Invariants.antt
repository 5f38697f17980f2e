use Rattle.std.specs.Prelude.{take}
use Rattle.plain_commands.specs.CheckingSteps.{IsCheckedTo}
use Rattle.plain_commands.proofs.checking.check_folders.Given as goal

abbrev pub invariant-loop-folder : goal.invariant-loop-folder
invariant-loop-folder g l =
    IsCheckedTo (take l.folder-index l.folders) l.last (g.S.Store.seen l.fn.store) (g.S.Store.seen l.store)
    (g.K.Sink.seen l.fn.output) (g.K.Sink.seen l.output)
