use Rattle.std.proofs.Common.{◌≡◌}
use Rattle.form_urlencoded.specs.Form.{raw_pairs}
use Rattle.target.specs.Parameters.{parameter, parameter_values}
use Rattle.target.proofs.ValueLemmas.{with_values}
use Rattle.target.proofs.parameters.parameter.Given as goal

abbrev pub invariant-loop-name : goal.invariant-loop-name
invariant-loop-name l =
    with_values l.found (parameter_values l.wanted (raw_pairs l.name-iterator.input.now)) ≡ parameter l.wanted l.query
