use Rattle.std.proofs.Common.{codes, sym}
use Rattle.std.proofs.lemmas.List.{append-nil}
use Rattle.http_answer.specs.Parts.{field_line}
use Rattle.http_answer.specs.Replies.{tag_lines}
use Rattle.http_answer.proofs.Joining.{tag_parts}
use Rattle.http_answer.proofs.putting.put_tag.Goals as goal

pub returns-in_ok-put-in-Some-clause-ok : goal.returns-in_ok-put-in-Some-clause-ok
unfolding field_line tag_lines
returns-in_ok-put-in-Some-clause-ok c =
    rw (c.in_ok-put-in-Some.ensures.ok, c.in_ok-put_line-in-Some.ensures.ok, c.as_slice.ensures, c.in-Some.is)
    (tag_parts c.args.out.now (codes "ETag: ") c.in-Some.tag (codes "Vary: Accept") (codes "\r\n"))

pub returns-in-None-clause-ok : goal.returns-in-None-clause-ok
unfolding tag_lines
returns-in-None-clause-ok c = rw c.in-None.is (sym (append-nil c.args.out.now))
