use Rattle.std.proofs.Common.{append_assoc}
use Rattle.std.proofs.lemmas.List.{append-nil}
use Rattle.vtimezone.specs.CalendarText.{head_lines}
use Rattle.vtimezone.proofs.calendar_text.append_head.Goals as goal

pub returns-clause-ok : goal.returns-clause-ok
unfolding head_lines
returns-clause-ok c =
    rw (c.in_ok-line-5.ensures.ok, c.in_ok-line-4.ensures.ok, c.in_ok-line-3.ensures.ok, c.in_ok-line-2.ensures.ok, c.in_ok-line.ensures.ok)
    (simp (append_assoc, append-nil))
