use Rattle.std.proofs.Common.{rules, refl, ap, ◌∙◌}
use Rattle.td_base.proofs.lemmas.LaterLemmas.{store_trans}
use Rattle.catalogue.specs.Holdings.{history_of}
use Rattle.subscribers.specs.Hearing.{all_hear}
use Rattle.run_ends.proofs.lemmas.Installing.{rest_more, rest_refused}
use Rattle.run_ends.proofs.lemmas.SessionLemmas.{session_trans}
use Rattle.run_ends.proofs.opening.install_rest.Goals as goal

pub returns-in_err-install-clause-rest : goal.returns-in_err-install-clause-rest
returns-in_err-install-clause-rest g c =
    let refused = rest_refused _ _ _ _ c.args.folders.now c.loop-folder.folder-index c.folder-item.result c.args.session.now.installer.list
    c.loop-folder.session.installer.list c.install.new.self.installer.list _ c.in_err-install.field-0.0 c.loop-folder-test.true c.folder-item.is
    c.loop-folder.invariant.later c.loop-folder.invariant.extends (rw c.as_slice.ensures at c.in_err-install.ensures.found) in
    search (refused, rules)

pub loop-folder-preserved : goal.loop-folder-preserved
loop-folder-preserved g c =
    let found = rw c.as_slice.ensures at c.in_ok-install.ensures.found in
    record {
      later = store_trans _ _ _ c.loop-folder.invariant.later found.later;
      session = session_trans _ _ _ c.loop-folder.invariant.session c.install.ensures.later;
      nobody = λ none. c.in_ok-install.ensures.heard
          ∙ ap (λ s. all_hear (history_of c.install.new.self.installer.list) s) (c.loop-folder.invariant.nobody none);
      extends = rest_more _ _ _ _ c.args.folders.now c.loop-folder.folder-index c.folder-item.result (history_of c.args.session.now.installer.list)
          (history_of c.loop-folder.session.installer.list) (history_of c.install.new.self.installer.list)
          (λ u. history_of c.install.new.self.installer.list) c.in_ok-install.field-0 c.loop-folder-test.true c.folder-item.is
          c.loop-folder.invariant.later c.loop-folder.invariant.extends found c.in_ok-install.ensures.grown refl;
    }
