use Rattle.std.proofs.Common.{take, option_copied}
use Rattle.sync_core.proofs.Newest.{IsNewest}
use Rattle.sync_core.proofs.publishing.newest.Given as goal

abbrev pub invariant-loop-zone : goal.invariant-loop-zone
invariant-loop-zone l = IsNewest (take l.zone-index l.zones) (option_copied l.newest)
