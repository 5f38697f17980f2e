use Rattle.std.proofs.Common.{option_copied}
use Rattle.negotiate.specs.Marks.{comma}
use Rattle.td_base.specs.Texts.{pieces_left, pieces}
use Rattle.negotiate.proofs.LargerLemmas.{past_element, past_all}
use Rattle.negotiate.proofs.qualities.quality_of_range.Goals as goal

pub elements-preserved : goal.elements-preserved
elements-preserved c =
    rw (c.larger_quality-best.ensures, c.quality_for.ensures)
    (past_element c.args.range.now c.elements.best (pieces comma c.in-Some.rest.now) c.cut.result.0.now (pieces_left comma (option_copied c.cut.result.1)) _
    c.cut.ensures.cut (rw c.in-Some.is at c.elements.invariant))

pub returns : goal.returns
returns c = past_all c.args.range.now c.elements.best _ (rw c.in_default.is at c.elements.invariant)
