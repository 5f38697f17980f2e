use Rattle.sync_laws.proofs.Settling.{empty_changes}
use Rattle.sync_laws.proofs.syncs.only_empty_changes_settle.Goals as goal

pub returns : goal.returns
returns c = empty_changes
