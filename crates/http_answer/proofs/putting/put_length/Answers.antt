use Rattle.std.proofs.Common.{codes, decimal, length}
use Rattle.std.proofs.lemmas.Bool.{ne_eqb}
use Rattle.http_answer.specs.Parts.{field_line}
use Rattle.http_answer.specs.Replies.{length_lines}
use Rattle.http_answer.proofs.Joining.{line_parts}
use Rattle.http_answer.proofs.putting.put_length.Goals as goal

pub returns-clause-ok : goal.returns-clause-ok
unfolding field_line length_lines
returns-clause-ok c =
    rw (ne_eqb c.args.answer.now.status 304 c.if-answer-eq304.false)
    (rw (c.in_ok-put_line.ensures.ok, c.as_bytes.ensures.value, c.format.ensures.text, c.len.ensures)
    (line_parts c.args.out.now (codes "Content-Length: ") (decimal (length c.args.answer.now.body)) (codes "\r\n")))
