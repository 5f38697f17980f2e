use Rattle.std.proofs.Common.{◌∙◌}
use Rattle.plain_commands.proofs.answering.end_history.Goals as goal

pub returns-in-Ok : goal.returns-in-Ok
returns-in-Ok g c =
    let told = c.in-Ok.ensures.ok in
    let learnt = c.learn.ensures.whole told.2 in (learnt.0 ∙ (told.0 ∙ c.in_ok-ended.ensures.ended.1), learnt.1)
