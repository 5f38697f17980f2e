use Rattle.std.proofs.Common.{◌∙◌, sym, ap}
use Rattle.std.specs.Prelude.{option_map, option_and_then}
use Rattle.serde_json.specs.View.{view}
use Rattle.json_forms.specs.ProblemDocument.{problem_named, type_member, problem_in}
use Rattle.json_forms.proofs.problem_reader.read_problem.Goals as goal

pub returns-in-Some : goal.returns-in-Some
unfolding problem_in
returns-in-Some c =
    c.problem_of.ensures
    ∙ ap (λ o. option_and_then problem_named (option_and_then type_member o)) (sym (ap (option_map view) c.in-Some.is) ∙ c.in_ok-value.ensures)

pub returns-in-None : goal.returns-in-None
unfolding problem_in
returns-in-None c =
    ap (λ o. option_and_then problem_named (option_and_then type_member o)) (sym (ap (option_map view) c.in-None.is) ∙ c.in_ok-value.ensures)
