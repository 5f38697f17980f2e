use Rattle.std.proofs.Common.{codes}
use Rattle.made_load.specs.Requests.{head_text}
use Rattle.made_load.proofs.AskLemmas.{head_parts}
use Rattle.made_load.proofs.asking.put_head.Goals as goal

pub returns : goal.returns
unfolding head_text
returns c =
    rw (c.in_ok-append-5.ensures.ok, c.in_ok-append-4.ensures.ok, c.in_ok-append-3.ensures.ok, c.in_ok-append-2.ensures.ok, c.in_ok-append.ensures.ok)
    (head_parts c.args.out.now (codes "GET ") c.args.target.now (codes " HTTP/1.1\r\nHost: x\r\n") c.args.lines.now (codes "\r\n"))
