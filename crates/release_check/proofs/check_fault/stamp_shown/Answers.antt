use Rattle.std.proofs.Common.{◌∙◌, ap}
use Rattle.release_check.specs.FaultText.{readable}
use Rattle.release_check.proofs.FaultTexts.{readable_stamp}
use Rattle.release_check.proofs.check_fault.stamp_shown.Goals as goal

pub returns : goal.returns
returns c = λ moment is. c.readable.ensures ∙ ap readable c.as_slice.ensures.value ∙ readable_stamp c.args.text.now moment is
