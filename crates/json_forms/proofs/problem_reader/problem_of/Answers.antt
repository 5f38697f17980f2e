use Rattle.std.proofs.Common.{◌∙◌, sym, ap}
use Rattle.std.specs.Prelude.{option_and_then}
use Rattle.json_forms.specs.ProblemDocument.{problem_named, all_problems}
use Rattle.json_forms.proofs.problem_reader.problem_of.Goals as goal

pub returns-in-Some : goal.returns-in-Some
unfolding all_problems
returns-in-Some c = c.named_in.ensures ∙ sym (ap (option_and_then problem_named) c.in-Some.ensures)
