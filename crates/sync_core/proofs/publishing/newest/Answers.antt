use Rattle.sync_core.proofs.Newest.{newest_step}
use Rattle.sync_core.proofs.publishing.newest.Goals as goal

pub loop-zone-preserved : goal.loop-zone-preserved
loop-zone-preserved c =
    newest_step c.args.zones.now c.loop-zone.zone-index _ c.zone-item.result _ c.loop-zone-test.true c.zone-item.is c.loop-zone.invariant c.later.ensures
