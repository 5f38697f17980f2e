use Rattle.std.proofs.Common.{rules, refl, drop, ◌∙◌}
use Rattle.catalogue.specs.Holdings.{history_of}
use Rattle.run_ends.proofs.lemmas.Installing.{all_came, all_refused, all_stopped, came_starved, headed, others_are, parts_desks, same_pair}
use Rattle.run_ends.proofs.opening.open_all.Goals as goal

pub returns-in_err-installer-clause-all : goal.returns-in_err-installer-clause-all
returns-in_err-installer-clause-all g c =
    let row = headed c.args.folders.now c.index-folders-0.result c.requires.folders c.index-folders-0.is in
    let refused = all_refused _ _ c.args.asked.now.rules.chosen c.index-folders-0.result (drop 1 c.args.folders.now) c.args.folders.now _
    c.in_err-installer.field-0.0 row
    (rw c.as_slice-first.ensures at c.in_err-installer.ensures.found) in
    search (refused, rules)

pub returns-in-Err-clause-all : goal.returns-in-Err-clause-all
returns-in-Err-clause-all g c =
    let row = headed c.args.folders.now c.index-folders-0.result c.requires.folders c.index-folders-0.is in
    all_stopped _ _ _ _ c.index-folders-0.result (drop 1 c.args.folders.now) c.args.folders.now (λ p. history_of p.0.list)
    (c.in_ok-installer.installer, c.in_ok-installer.desks)
    c.in_ok-installer.installer.list _ c.in-Err.fault row (rw c.as_slice-first.ensures at c.in_ok-installer.ensures.found) c.in_ok-installer.ensures.grown
    refl (rw (others_are c.args.folders.now) at c.in-Err.ensures.rest)

pub learn_opening-requires : goal.learn_opening-requires
learn_opening-requires g c =
    let parts = parts_desks c.in_ok-installer.installer.pair _ c.in_ok-installer.installer.list c.in_ok-installer.desks.items c.pop.new.self.items
    c.pop.result c.unwrap-desk.result c.args.workers c.install_rest.ensures.pair c.pop.ensures.items c.unwrap-desk.ensures
    c.in_ok-installer.ensures.number c.in_ok-installer.ensures.each in
    same_pair _ _ _ parts.1

pub returns-in-Ok-clause-all : goal.returns-in-Ok-clause-all
returns-in-Ok-clause-all g c =
    let row = headed c.args.folders.now c.index-folders-0.result c.requires.folders c.index-folders-0.is in
    all_came _ _ _ _ c.index-folders-0.result (drop 1 c.args.folders.now) c.args.folders.now (λ p. history_of p.0.list)
    (c.in_ok-installer.installer, c.in_ok-installer.desks)
    c.in_ok-installer.installer.list _ _ row (rw c.as_slice-first.ensures at c.in_ok-installer.ensures.found) c.in_ok-installer.ensures.grown
    refl (rw (others_are c.args.folders.now) at c.in_default.ensures.rest)

pub returns-in-Ok-clause-desks : goal.returns-in-Ok-clause-desks
returns-in-Ok-clause-desks g c =
    let parts = parts_desks c.in_ok-installer.installer.pair _ c.in_ok-installer.installer.list c.in_ok-installer.desks.items c.pop.new.self.items
    c.pop.result c.unwrap-desk.result c.args.workers c.install_rest.ensures.pair c.pop.ensures.items c.unwrap-desk.ensures
    c.in_ok-installer.ensures.number c.in_ok-installer.ensures.each in
    record {
      number = c.in-Ok.ensures.number ∙ parts.0;
      seen = c.in-Ok.ensures.seen;
      nobody = c.install_rest.ensures.nobody c.in_ok-installer.ensures.nobody;
    }

pub returns-in-Err-learn_opening-clause-all : goal.returns-in-Err-learn_opening-clause-all
returns-in-Err-learn_opening-clause-all g c =
    let row = headed c.args.folders.now c.index-folders-0.result c.requires.folders c.index-folders-0.is in
    came_starved _ _ _ _ _
    (all_came _ _ _ _ c.index-folders-0.result (drop 1 c.args.folders.now) c.args.folders.now (λ p. history_of p.0.list)
    (c.in_ok-installer.installer, c.in_ok-installer.desks)
    c.in_ok-installer.installer.list _ _ row (rw c.as_slice-first.ensures at c.in_ok-installer.ensures.found) c.in_ok-installer.ensures.grown
    refl (rw (others_are c.args.folders.now) at c.in_default.ensures.rest))
