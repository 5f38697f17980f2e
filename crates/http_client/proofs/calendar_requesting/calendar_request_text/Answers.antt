use Rattle.std.proofs.Common.{codes}
use Rattle.http_client.specs.CalendarRequests.{calendar_accepted, calendar_request_text}
use Rattle.http_client.specs.Requests.{enclosed, request_line}
use Rattle.http_client.proofs.Joining.{head_parts}
use Rattle.http_client.proofs.calendar_requesting.calendar_request_text.Goals as goal

pub returns : goal.returns
unfolding calendar_request_text
returns c =
    rw (c.in_ok-put_enclosed-2.ensures, c.calendar_accepted.ensures, c.in_ok-put_enclosed.ensures, c.in_ok-put_request_line.ensures, c.new-out.ensures)
    (head_parts (request_line c.args.ask.now) (enclosed (codes "Host: ") c.args.host.now (codes "\r\n"))
    (enclosed (codes "Accept: ") (calendar_accepted c.args.ask.now) (codes "\r\nConnection: close\r\n\r\n")))
