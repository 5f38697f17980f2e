-- Texts with which a run ends.
use Rattle.std.specs.Prelude.{ℕ, List, ◌++◌, codes}
use Rattle.td_base.specs.Views.{SinkView}
use Rattle.td_base.specs.Transfer.{Prints, WritesAll}
use Rattle.td_base.specs.declared.transfer.Written.TheVariants as written
use Rattle.run_ends.specs.declared.status.Status.{Status}
use Rattle.run_ends.specs.declared.status.Status.TheVariants as status

-- a refusal, and why
abbrev pub refused_line : List ℕ → List ℕ
refused_line why = codes "refused " ++ (why ++ codes "\n")

-- A text that is called for with a status was printed. What is the work itself is written whole, or
-- a failed write cut it; a line that says why nothing was done keeps its status, cut or not.
abbrev pub Printed : Status → List ℕ → SinkView → SinkView → Status → Type 0
Printed status.Done text old new status.Done = WritesAll old new text written.Whole
Printed status.Done text old new status.NotWritten = WritesAll old new text written.Cut
Printed status.Usage text old new status.Usage = Prints old new text
Printed status.Refused text old new status.Refused = Prints old new text
Printed status.NotSynced text old new status.NotSynced = Prints old new text
Printed called text old new end = ⊥
