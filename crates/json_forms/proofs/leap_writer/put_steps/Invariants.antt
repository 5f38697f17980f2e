use Rattle.std.proofs.Common.{◌≡◌, ◌++◌, ◌∷◌, map, drop}
use Rattle.std.specs.List.{AllByRecursion}
use Rattle.json.specs.Token.{begin_array}
use Rattle.json_forms.specs.LeapDocument.{step_data, IsDatedStep}
use Rattle.json_forms.specs.TreeTokens.{rest_tokens}
use Rattle.json_forms.proofs.leap_writer.put_steps.Given as goal

abbrev pub invariant-loop-step : goal.invariant-loop-step
invariant-loop-step l = record {
  written : l.out.tokens ++ rest_tokens (map step_data (drop l.step-index l.steps)) ≡ l.fn.out.tokens ++ begin_array ∷ rest_tokens (map step_data l.fn.steps);
  dated : AllByRecursion IsDatedStep (drop l.step-index l.steps);
  before : l.out.before ≡ l.fn.out.before;
}
