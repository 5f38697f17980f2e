use Rattle.std.proofs.Common.{◌≡◌, drop}
use Rattle.std.specs.Prelude.{find}
use Rattle.json_forms.specs.ProblemDocument.{has_type}
use Rattle.json_forms.proofs.problem_reader.named_in.Given as goal

abbrev pub invariant-loop-problem : goal.invariant-loop-problem
invariant-loop-problem l = find (has_type l.urn) (drop l.problem-index l.problems) ≡ find (has_type l.fn.urn) l.fn.problems
