use Rattle.sync_core.proofs.Kept.{listed_rises}
use Rattle.sync_core.proofs.mirror.Mirror.hear_full.Goals as goal

pub invariant_of-self : goal.invariant_of-self
invariant_of-self c = listed_rises c.args.doc.zones c.in_ok-listed.listed.zones.items c.in_ok-listed.ensures.zones
