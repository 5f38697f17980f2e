use Rattle.std.proofs.Common.{sym, ◌∙◌}
use Rattle.ical_lines.proofs.LineLemmas.{refused, lines_read, no_fault}
use Rattle.ical_lines.proofs.reading.unfold.Goals as goal

pub returns-in-Some-clause-judged : goal.returns-in-Some-clause-judged
returns-in-Some-clause-judged c = λ _. sym (refused c.args.text.now c.in-Some.place c.in-Some.ensures)

pub returns-in-Some-clause-fault : goal.returns-in-Some-clause-fault
returns-in-Some-clause-fault c = λ _. refused c.args.text.now c.in-Some.place c.in-Some.ensures

pub returns-in_err-lines-clause-judged : goal.returns-in_err-lines-clause-judged
returns-in_err-lines-clause-judged c = λ h. absurd (no_fault c.args.text.now c.in_default.ensures h)

pub returns-clause-found : goal.returns-clause-found
returns-clause-found c = lines_read c.args.text.now c.in_ok-lines.lines c.in_default.ensures c.in_ok-lines.ensures

pub returns-clause-judged : goal.returns-clause-judged
returns-clause-judged c = λ h. absurd (no_fault c.args.text.now c.in_default.ensures h)
