use Rattle.std.proofs.Common.{ℕ, List, Some, refl}
use Rattle.std.specs.Prelude.{ℤ}
use Rattle.td_base.proofs.lemmas.LaterLemmas.{looks_later}
use Rattle.run_ends.specs.Commands.{at}
use Rattle.run_ends.specs.Outside.{Outside}
use Rattle.run_ends.specs.Running.{RunsAlone}
use Rattle.run_ends.specs.Running.StateLine.{ShowsState}
use Rattle.run_ends.specs.declared.status.Status.{Status}
use Rattle.run_ends.proofs.lemmas.Endings.{EndsLater, ends_absent, ends_shown, ends_starved, ends_unshown}
use Rattle.run_ends.proofs.lemmas.Runs.{runs_alone}
use Rattle.plain_commands.proofs.state_line.state_at.Goals as goal

shown : (path : List ℕ) (m : ℤ) (before after : Outside) (end : Status) → EndsLater (ShowsState path m) before after end
    → RunsAlone (Some (at path m)) before after end
shown path m before after end = runs_alone (ShowsState path m) (Some (at path m)) before after end (λ n r ends nobody. (ends, nobody))

pub returns-in-Found : goal.returns-in-Found
returns-in-Found g c = λ input.
    shown c.args.file.now c.args.moment.seconds _ _ _
    (ends_shown c.args.file.now c.in-Found.bytes c.args.moment.seconds _ _ input _ _ _ c.in-Found.ensures.look c.show.ensures)

pub returns-in-Absent : goal.returns-in-Absent
returns-in-Absent g c = λ input.
    shown c.args.file.now c.args.moment.seconds _ _ _
    (ends_absent c.args.file.now c.args.moment.seconds _ _ input _ _ _ c.in-Absent.ensures.look c.refuse_absent.ensures)

pub returns-in-Failed : goal.returns-in-Failed
returns-in-Failed g c = λ input.
    shown c.args.file.now c.args.moment.seconds _ _ _
    (ends_unshown c.args.file.now c.args.moment.seconds _ _ input _ _ (c.in-Failed.ensures.look.failed refl)
    (looks_later _ _ _ _ _ c.in-Failed.ensures.look) refl)

pub returns-in-NoMemory : goal.returns-in-NoMemory
returns-in-NoMemory g c = λ input.
    shown c.args.file.now c.args.moment.seconds _ _ _
    (ends_starved c.args.file.now c.args.moment.seconds _ _ input _ _ (looks_later _ _ _ _ _ c.in-NoMemory.ensures.look) refl)
