use Rattle.std.proofs.Common.{sym}
use Rattle.td_base.proofs.NameCutLemmas.{with_prefix-segments, cut_at_slash, past_byte, cut_at_end}
use Rattle.td_base.proofs.name_forms.cut_segment.Goals as goal

pub loop-at-init : goal.loop-at-init
loop-at-init c = sym (with_prefix-segments c.args.text.now)

pub returns-then-byte-eq47-clause-cut : goal.returns-then-byte-eq47-clause-cut
returns-then-byte-eq47-clause-cut c =
    cut_at_slash c.args.text.now c.loop-at.at c.loop-at-test.true c.if-byte-eq47.true c.loop-at.invariant

pub loop-at-preserved : goal.loop-at-preserved
loop-at-preserved c =
    past_byte c.args.text.now c.loop-at.at c.loop-at-test.true c.if-byte-eq47.false c.loop-at.invariant

pub returns-clause-cut : goal.returns-clause-cut
returns-clause-cut c = cut_at_end c.args.text.now c.loop-at.at c.loop-at-test.false c.loop-at.invariant
