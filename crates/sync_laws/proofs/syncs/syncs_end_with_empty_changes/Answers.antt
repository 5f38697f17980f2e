use Rattle.sync_laws.proofs.Settling.{ends_unchanged}
use Rattle.sync_laws.proofs.syncs.syncs_end_with_empty_changes.Goals as goal

pub returns : goal.returns
returns c = λ host s t taken untaken ends. ends_unchanged host s t taken untaken c.only_empty_changes_settle.ensures ends
