use Rattle.std.proofs.Common.{◌≡◌, ap, ◌∙◌}
use Rattle.form_urlencoded.specs.Form.{raw_pairs}
use Rattle.target.specs.Parameters.{parameter, param_with, parameter_values}
use Rattle.target.proofs.ValueLemmas.{with_values-absent}
use Rattle.target.proofs.parameters.parameter.Goals as goal

pub loop-name-init : goal.loop-name-init
unfolding parameter
loop-name-init c =
    let pairs : raw_pairs c.into_iter-name-iterator.result.input.now ≡ raw_pairs c.args.query.now =
    rw c.into_iter-name-iterator.ensures.into_iter_gives c.raw_pairs-name-items.ensures.value in
    with_values-absent _ ∙ ap (λ ps. param_with (parameter_values c.args.wanted.now ps)) pairs
