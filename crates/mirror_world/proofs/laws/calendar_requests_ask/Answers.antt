use Rattle.mirror_world.proofs.Requesting.{calendar_request_asks}
use Rattle.mirror_world.proofs.laws.calendar_requests_ask.Goals as goal

pub returns : goal.returns
returns c = calendar_request_asks c.calendar_requests_are_heads.ensures c.asks_by_name.ensures
