use Rattle.std.proofs.Common.{codes}
use Rattle.http_client.specs.Requests.{accepted, enclosed, request_line, request_text}
use Rattle.http_client.proofs.Joining.{head_parts}
use Rattle.http_client.proofs.requesting.request_text.Goals as goal

pub returns : goal.returns
unfolding request_text
returns c =
    rw (c.in_ok-put_enclosed-2.ensures, c.accepted.ensures, c.in_ok-put_enclosed.ensures, c.in_ok-put_request_line.ensures, c.new-out.ensures)
    (head_parts (request_line c.args.ask.now) (enclosed (codes "Host: ") c.args.host.now (codes "\r\n"))
    (enclosed (codes "Accept: ") (accepted c.args.ask.now) (codes "\r\nConnection: close\r\n\r\n")))
