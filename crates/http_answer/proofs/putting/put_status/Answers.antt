use Rattle.std.proofs.Common.{codes}
use Rattle.http.specs.StatusCode.{code_digits}
use Rattle.http_answer.specs.Parts.{field_line}
use Rattle.http_answer.specs.Replies.{phrase, status_line}
use Rattle.http_answer.proofs.Joining.{status_parts}
use Rattle.http_answer.proofs.putting.put_status.Goals as goal

pub returns-clause-ok : goal.returns-clause-ok
unfolding field_line status_line
returns-clause-ok c =
    rw (c.in_ok-put_line.ensures.ok, c.in_ok-put-2.ensures.ok, c.in_ok-put.ensures.ok)
    (rw (c.as_bytes.ensures.value, c.as_str.ensures, c.phrase_of.ensures, c.status_of-status.ensures)
    (status_parts c.args.out.now (codes "HTTP/1.1 ") (code_digits c.args.status) (codes " ") (phrase c.args.status) (codes "\r\n")))
