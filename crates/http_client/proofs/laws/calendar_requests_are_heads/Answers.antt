use Rattle.http_client.proofs.Heads.{sent_calendar_head}
use Rattle.http_client.proofs.laws.calendar_requests_are_heads.Goals as goal

pub returns : goal.returns
returns c = sent_calendar_head
