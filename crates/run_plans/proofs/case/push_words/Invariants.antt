use Rattle.std.specs.Prelude.{⊤}
use Rattle.run_plans.proofs.case.push_words.Given as goal

abbrev pub invariant-loop-word : goal.invariant-loop-word
invariant-loop-word l = ⊤
