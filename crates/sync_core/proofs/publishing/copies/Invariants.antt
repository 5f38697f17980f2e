use Rattle.std.proofs.Common.{◌≡◌, ◌++◌, drop}
use Rattle.sync_core.proofs.publishing.copies.Given as goal

abbrev pub invariant-loop-text : goal.invariant-loop-text
invariant-loop-text l = l.copies ++ drop l.text-index l.texts ≡ l.texts
