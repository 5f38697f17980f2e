use Rattle.http_client.specs.CalendarRequests.{calendar_accepted, calendar_request_text}
use Rattle.http_client.specs.Requests.{accepted, request_text}
use Rattle.sync_laws.proofs.Named.{one_host}
use Rattle.sync_laws.proofs.exchanges.requests_name_their_host.Goals as goal

pub returns-clause-files : goal.returns-clause-files
returns-clause-files c = λ host a h v reads.
    let sent = c.requests_are_heads.ensures host a v in
    one_host (request_text host a) (accepted a) host a sent.0 h sent.1 reads

pub returns-clause-calendars : goal.returns-clause-calendars
returns-clause-calendars c = λ host a h v reads.
    let sent = c.calendar_requests_are_heads.ensures host a v in
    one_host (calendar_request_text host a) (calendar_accepted a) host a sent.0 h sent.1 reads
