use Rattle.std.proofs.Common.{ℕ, List, Some}
use Rattle.run_ends.specs.Commands.{answer}
use Rattle.run_ends.specs.Outside.{Outside}
use Rattle.run_ends.specs.Running.{RunsAlone}
use Rattle.run_ends.specs.Running.Answering.{Answers}
use Rattle.run_ends.specs.declared.status.Status.{Status}
use Rattle.run_ends.proofs.lemmas.Endings.{EndsLater, ends_served, ends_unanswered}
use Rattle.run_ends.proofs.lemmas.Runs.{runs_alone}
use Rattle.plain_commands.proofs.answering.answer.Goals as goal

answered : (dirs : List (List ℕ)) (before after : Outside) (end : Status) → EndsLater (Answers dirs) before after end
    → RunsAlone (Some (answer dirs)) before after end
answered dirs before after end = runs_alone (Answers dirs) (Some (answer dirs)) before after end (λ n r ends nobody. (ends, nobody))

pub returns-in-Ok : goal.returns-in-Ok
returns-in-Ok g c =
    answered c.args.plan.now.folders.now _ _ _
    (ends_served c.args.plan.now.folders.now _ _ _ _ _ _ _ _ (rw (c.new-asked.ensures, c.none.ensures) at c.in-Ok.ensures.all) c.serve_last.ensures)

pub returns : goal.returns
returns g c =
    answered c.args.plan.now.folders.now _ _ _
    (ends_unanswered c.args.plan.now.folders.now c.in-Err.fault _ _ _ _ _ _ (rw (c.new-asked.ensures, c.none.ensures) at c.in-Err.ensures.all)
    c.refuse_install.ensures)
