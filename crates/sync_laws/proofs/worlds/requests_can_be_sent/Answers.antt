use Rattle.sync_laws.proofs.Coming.{requests_askable}
use Rattle.sync_laws.proofs.worlds.requests_can_be_sent.Goals as goal

pub returns : goal.returns
returns c = requests_askable
