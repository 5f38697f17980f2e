use Rattle.std.proofs.Common.{◌∙◌}
use Rattle.release_check.proofs.FaultTexts.{readable-text, readable-none}
use Rattle.release_check.proofs.check_fault.readable.Goals as goal

pub returns-in-Ok : goal.returns-in-Ok
returns-in-Ok c = c.in-Ok.ensures.cases.0 ∙ readable-text c.args.bytes.now c.in-Ok.ensures.cases.1

pub returns-in-Err : goal.returns-in-Err
returns-in-Err c = readable-none c.args.bytes.now c.in-Err.ensures.cases.0
