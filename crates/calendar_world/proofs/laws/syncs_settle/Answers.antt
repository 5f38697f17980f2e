use Rattle.http_client.specs.CalendarRequests.{calendar_request_text}
use Rattle.calendar_world.proofs.Settling.{settle_so}
use Rattle.calendar_world.proofs.laws.syncs_settle.Goals as goal

pub returns : goal.returns
returns c = λ host t taken untaken xs more result k parts ends.
    settle_so c.mirrors_hold_calendars.ensures c.answers_are_sound.ensures c.data_is_heard_in_bytes.ensures c.one_meaning.ensures c.one_judgement.ensures
    (calendar_request_text host) t taken untaken xs more result k parts ends
