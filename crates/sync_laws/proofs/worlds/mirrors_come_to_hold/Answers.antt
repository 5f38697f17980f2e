use Rattle.sync_laws.proofs.Coming.{come_to_hold}
use Rattle.sync_laws.proofs.worlds.mirrors_come_to_hold.Goals as goal

pub returns : goal.returns
returns c = come_to_hold c.requests_ask.ensures
