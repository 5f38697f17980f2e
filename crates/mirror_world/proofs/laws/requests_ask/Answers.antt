use Rattle.mirror_world.proofs.Requesting.{request_asks}
use Rattle.mirror_world.proofs.laws.requests_ask.Goals as goal

pub returns : goal.returns
returns c = request_asks c.requests_are_heads.ensures c.asks_by_name.ensures
