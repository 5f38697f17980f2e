use Rattle.std.proofs.Common.{◌∙◌, sym, length}
use Rattle.leap_table.proofs.Rising.{is_second, few_seconds}
use Rattle.leap_table.proofs.leap_lines.step_at.Goals as goal

pub second_after-second-requires-clause-line : goal.second_after-second-requires-clause-line
second_after-second-requires-clause-line c =
    let s = is_second c.args.lines.now c.args.number (sym c.is_step.ensures ∙ c.if-not-is_step.false) c.requires.risen in
    rw c.line_at-line.ensures (s.at_low, s.at_high)

pub step_from-step-requires : goal.step_from-step-requires
step_from-step-requires c =
    few_seconds c.args.lines.now c.args.number (length c.args.lines.now) c.line_at-line.result c.line_at-line.ensures
    (sym c.is_step.ensures ∙ c.if-not-is_step.false) c.requires.risen c.requires.inside c.requires.few
