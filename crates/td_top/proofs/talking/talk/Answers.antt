use Rattle.std.proofs.Common.{◌∙◌}
use Rattle.td_top.proofs.TalkLemmas.{cut_at_once, gives_none, ready_text, starts}
use Rattle.td_top.proofs.talking.talk.Goals as goal

pub returns-in-Whole-clause-talks : goal.returns-in-Whole-clause-talks
returns-in-Whole-clause-talks g c =
    c.answer_lines.ensures.talks _
    (starts _ _ _ _ c.args.console.now.session.now c.as_slice.result.now c.args.console.now.session.now.knows
    (c.as_slice.ensures.value ∙ (c.short-ready.ensures ∙ ready_text _ _ c.newest.ensures)) c.in-Whole.ensures gives_none)

pub returns-in-Cut-clause-talks : goal.returns-in-Cut-clause-talks
returns-in-Cut-clause-talks g c =
    cut_at_once _ _ _ _ c.args.console.now.session.now c.as_slice.result.now c.args.console.now.session.now.knows
    (c.as_slice.ensures.value ∙ (c.short-ready.ensures ∙ ready_text _ _ c.newest.ensures)) c.in-Cut.ensures gives_none
