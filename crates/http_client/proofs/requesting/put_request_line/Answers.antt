use Rattle.std.proofs.Common.{codes}
use Rattle.http_client.specs.Requests.{request_line, target_of}
use Rattle.http_client.proofs.Joining.{enclosed_parts}
use Rattle.http_client.proofs.requesting.put_request_line.Goals as goal

pub returns : goal.returns
unfolding request_line
returns c =
    rw (c.in_ok-append-2.ensures.ok, c.in_ok-put_target.ensures, c.in_ok-append.ensures.ok)
    (enclosed_parts c.args.out.now (codes "GET ") (target_of c.args.ask.now) (codes " HTTP/1.0\r\n"))
