use Rattle.std.specs.Prelude.{◌≡◌, []}
use Rattle.run_plans.proofs.outside.with_answers.Given as goal

abbrev pub invariant-loop-answer : goal.invariant-loop-answer
invariant-loop-answer l = l.upstream.told ≡ []
