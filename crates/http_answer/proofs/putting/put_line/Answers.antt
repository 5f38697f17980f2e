use Rattle.std.proofs.Common.{append_assoc}
use Rattle.http_answer.specs.Parts.{field_line}
use Rattle.http_answer.proofs.putting.put_line.Goals as goal

pub returns-clause-ok : goal.returns-clause-ok
unfolding field_line
returns-clause-ok c = rw (c.in_ok-put-3.ensures.ok, c.in_ok-put-2.ensures.ok, c.in_ok-put.ensures.ok) (simp append_assoc)
