use Rattle.std.proofs.Common.{rules}
use Rattle.made_load.proofs.ZoneLemmas.{all_files}
use Rattle.made_load.proofs.zones.made_store.Goals as goal

pub returns : goal.returns
returns c = all_files c.args.release c.zones.zone c.zones.store (search rules) c.zones.invariant.files
