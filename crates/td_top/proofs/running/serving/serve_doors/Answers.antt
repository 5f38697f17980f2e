use Rattle.std.proofs.Common.{ℕ, List, Some, refl}
use Rattle.admission.specs.declared.rules.Chosen.{Chosen}
use Rattle.installer.specs.declared.install_fault.InstallFault.TheVariants as install
use Rattle.run_ends.specs.Commands.{serve}
use Rattle.run_ends.specs.Folders.{ServesNothing}
use Rattle.run_ends.specs.Outside.{Outside}
use Rattle.run_ends.specs.Running.{RunsAlone}
use Rattle.run_ends.specs.Running.Server.{nothing}
use Rattle.run_ends.specs.declared.status.Status.{Status}
use Rattle.run_ends.proofs.lemmas.Endings.{EndsLater, ends_nothing}
use Rattle.run_ends.proofs.lemmas.Installing.{all_starved}
use Rattle.td_top.proofs.RunLemmas.{ran_doors}
use Rattle.run_ends.proofs.lemmas.Runs.{runs_alone, runs_as}
use Rattle.td_top.proofs.running.serving.serve_doors.Goals as goal

not_served : (address : List ℕ) (workers : ℕ) (rules : List Chosen) (dirs : List (List ℕ)) (before after : Outside) (end : Status)
    → EndsLater (ServesNothing rules dirs) before after end → RunsAlone (Some (serve address workers rules dirs)) before after end
not_served address workers rules dirs before after end =
    runs_alone (ServesNothing rules dirs) (Some (serve address workers rules dirs)) before after end
    (λ n r ends nobody. (nothing _ ends nobody.network nobody.spawner, nobody.no_server))

pub returns-in-Ok-open_all-clause-ends : goal.returns-in-Ok-open_all-clause-ends
returns-in-Ok-open_all-clause-ends g c =
    let words = c.args.words.now in
    runs_as _ _ _ _ _ _ (rw (c.after.ensures.doors, c.after.ensures.status, c.after.ensures.up)
    (ran_doors words.address.now words.workers words.rules _ words.folders.now _ _ _ _ _ _ _ _ _ _ _ _ _ _ _ refl
    (rw (c.new-asked.ensures, c.in-Ok.ensures) at c.in-Ok-open_all.ensures.all)
    (rw (c.new-asked.ensures, c.in-Ok.ensures) at c.serve_opened.ensures.ends)))

pub returns-clause-ends : goal.returns-clause-ends
returns-clause-ends g c = λ asked same.
    let words = c.args.words.now in
    c.closed-in-Err.ensures.ends asked _ _ g.N.Door.Door.seen g.N.Up.Upstream.seen
    (not_served words.address.now words.workers words.rules words.folders.now _ _ _
    (ends_nothing words.rules words.folders.now c.in-Err.fault _ _ _ _ _ _ (rw (c.new-asked.ensures, c.in-Ok.ensures) at c.in-Err.ensures.all)
    c.refuse_install.ensures) _ _ asked same)

pub returns-in_default-clause-ends : goal.returns-in_default-clause-ends
returns-in_default-clause-ends g c = λ asked same.
    let words = c.args.words.now in
    c.closed.ensures.ends asked _ _ g.N.Door.Door.seen g.N.Up.Upstream.seen
    (not_served words.address.now words.workers words.rules words.folders.now _ _ _
    (ends_nothing words.rules words.folders.now install.NoMemory _ _ _ _ _ _ (all_starved _ _ _) (refl, refl)) _ _ asked same)
