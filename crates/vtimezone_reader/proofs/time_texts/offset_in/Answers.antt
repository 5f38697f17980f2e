use Rattle.std.proofs.Common.{◌∙◌}
use Rattle.vtimezone_reader.proofs.LocalTimes.{rest_is, offset_is}
use Rattle.vtimezone_reader.proofs.time_texts.offset_in.Goals as goal

pub returns-clause-value : goal.returns-clause-value
returns-clause-value c =
    c.signed_by.ensures.value ∙ offset_is c.args.text.now _ c.in_ok-size.size c.in-len1-up.len_at_least (rest_is c.args.text.now) c.in_ok-size.ensures.value
