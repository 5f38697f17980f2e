use Rattle.http_client.specs.CalendarRequests.{calendar_request_text}
use Rattle.calendar_world.proofs.Following.{holds_at}
use Rattle.calendar_world.proofs.laws.syncs_hold.Goals as goal

pub returns : goal.returns
returns c = λ H steps w host t taken untaken result history some logs.
    holds_at c.mirrors_hold_calendars.ensures c.one_judgement.ensures c.data_is_heard_in_bytes.ensures (calendar_request_text host) H steps w taken history some
    logs t untaken result
