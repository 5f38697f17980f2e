use Rattle.std.proofs.Common.{◌∙◌, ap}
use Rattle.std.specs.Prelude.{option_and_then}
use Rattle.td_top.specs.Command.{if_after}
use Rattle.td_top.proofs.command.end_after.Goals as goal

pub returns-in-Ok-clause-value : goal.returns-in-Ok-clause-value
returns-in-Ok-clause-value c =
    c.if_after.ensures.value ∙ ap (λ o. option_and_then (if_after c.args.start.seconds) o) c.in-Ok.ensures.exact

pub returns-in-Err-clause-value : goal.returns-in-Err-clause-value
returns-in-Err-clause-value c = ap (λ o. option_and_then (if_after c.args.start.seconds) o) c.in-Err.ensures.exact
