use Rattle.http_client.specs.CalendarRequests.{calendar_request_text}
use Rattle.calendar_world.proofs.Following.{all_understood}
use Rattle.calendar_world.proofs.laws.syncs_are_understood.Goals as goal

pub returns : goal.returns
returns c = λ H steps w host t taken untaken result history some logs ends answered.
    all_understood c.mirrors_hold_calendars.ensures c.one_judgement.ensures c.data_is_heard_in_bytes.ensures (calendar_request_text host) H steps w taken
    history some logs c.calendar_requests_are_answered.ensures c.data_is_meant_in_bytes.ensures t untaken answered c.calendars_fit.ensures
    c.zone_is_read.ensures c.zone_is_told.ensures c.calendars_are_heard.ensures c.one_meaning.ensures result ends
