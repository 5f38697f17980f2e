use Rattle.std.proofs.Common.{◌≡◌, None, refl}
use Rattle.td_base.proofs.lemmas.LaterLemmas.{store_refl}
use Rattle.run_ends.specs.Commands.{usage_line}
use Rattle.run_ends.specs.Outside.{Outside}
use Rattle.run_ends.specs.Printing.{Printed}
use Rattle.run_ends.specs.declared.status.Status.{Status}
use Rattle.run_ends.specs.declared.status.Status.TheVariants as status
use Rattle.run_ends.proofs.lemmas.Endings.{ends_printed}
use Rattle.run_ends.proofs.lemmas.Runs.{runs_alone}
use Rattle.td_top.proofs.running.usage.Goals as goal

abbrev ShowsUsage : Outside → Outside → Status → Type 0
ShowsUsage before after end = Printed status.Usage usage_line before.output after.output end × (after.input ≡ before.input)

pub returns : goal.returns
unfolding usage_line
returns g c = λ store input.
    runs_alone ShowsUsage None _ _ _ (λ n r ends nobody. (ends.0, ends.1, nobody))
    (ends_printed ShowsUsage store store input _ _ status.Usage usage_line _ (store_refl store) (c.print.ensures, refl) c.print.ensures)
