use Rattle.std.proofs.Common.{◌≡◌, [], take}
use Rattle.td_base.specs.Views.{LaterStore}
use Rattle.catalogue.specs.Holdings.{history_of}
use Rattle.run_ends.specs.Opening.{Extends}
use Rattle.run_ends.specs.Sessions.{LaterSession}
use Rattle.run_ends.proofs.opening.install_rest.Given as goal

abbrev pub invariant-loop-folder : goal.invariant-loop-folder
invariant-loop-folder g l = record {
  later : LaterStore (g.S.Store.seen l.fn.store) (g.S.Store.seen l.store);
  session : LaterSession l.fn.session l.session;
  nobody : l.fn.session.installer.subscribers ≡ [] → l.session.installer.subscribers ≡ [];
  extends : Extends (g.S.Store.seen l.fn.store).files l.asked.rules.chosen (take l.folder-index l.folders) (history_of l.fn.session.installer.list)
      (history_of l.session.installer.list);
}
