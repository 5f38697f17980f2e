use Rattle.std.proofs.Common.{◌∙◌}
use Rattle.console.proofs.Meant.{meant_moment-spelled, meant_moment-bad}
use Rattle.console.proofs.words.meant_moment.Goals as goal

pub returns-in-Ok-clause-value : goal.returns-in-Ok-clause-value
returns-in-Ok-clause-value c =
    c.if_meant.ensures.value ∙ meant_moment-spelled c.args.word.now _ c.in-Ok.ensures.exact

pub returns-in-Err-clause-value : goal.returns-in-Err-clause-value
returns-in-Err-clause-value c = meant_moment-bad c.args.word.now c.in-Err.ensures.exact
