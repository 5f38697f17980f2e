use Rattle.std.proofs.Common.{rules}
use Rattle.run_ends.proofs.lemmas.Refusals.{refuses_synced}
use Rattle.td_top.proofs.mirroring.refuse_sync.Goals as goal

pub returns-in_default : goal.returns-in_default
returns-in_default g c = search (refuses_synced, rules)
