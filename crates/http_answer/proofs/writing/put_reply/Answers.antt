use Rattle.std.proofs.Common.{codes}
use Rattle.http_answer.specs.Replies.{reply, status_line, fields, body_sent}
use Rattle.http_answer.proofs.Joining.{message_parts}
use Rattle.http_answer.proofs.writing.put_reply.Goals as goal

pub returns-clause-ok : goal.returns-clause-ok
unfolding reply
returns-clause-ok c =
    rw (c.in_ok-put-2.ensures.ok, c.in_ok-put.ensures.ok, c.in_ok-put_fields.ensures.ok, c.in_ok-put_status.ensures.ok, c.content.ensures)
    (message_parts c.args.out.now (status_line c.args.answer.now.status) (fields c.args.answer.now c.args.close)
    (codes "\r\n") (body_sent c.args.answer.now c.args.head_only))
