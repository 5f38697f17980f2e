use Rattle.std.proofs.Common.{◌≡◌, ◌++◌, drop}
use Rattle.release_check.proofs.text_copies.copy_texts.Given as goal

abbrev pub invariant-loop-text : goal.invariant-loop-text
invariant-loop-text l = l.copy ++ drop l.text-index l.texts ≡ l.texts
