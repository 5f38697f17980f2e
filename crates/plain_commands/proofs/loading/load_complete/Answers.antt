use Rattle.std.proofs.Common.{ℕ}
use Rattle.td_base.specs.Views.{Rose}
use Rattle.run_ends.specs.Completing.{IsComplete}
use Rattle.run_ends.specs.Outside.{Outside}
use Rattle.run_ends.specs.Running.Loading.{LoadEnds}
use Rattle.run_ends.specs.Running.Loading as loading
use Rattle.run_ends.specs.declared.status.Status.{Status}
use Rattle.run_ends.proofs.lemmas.Completing.{memory, printed_done}
use Rattle.plain_commands.proofs.loading.load_complete.Goals as goal

ends_complete : (n : ℕ) (before after : Outside) (is : Status) → LoadEnds n before after is
    → (Rose before.output.faults after.output.faults → ⊥) → IsComplete is
ends_complete n before after is (loading.told line end counts printed input) none = printed_done line before.output after.output is printed none
ends_complete n before after is (loading.out_of_memory left) none = memory

pub returns : goal.returns
returns c = λ n before after doors up is h none k. ends_complete n before.outside after.outside is h.0 none.output
