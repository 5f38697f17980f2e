use Rattle.sync_core.specs.Steps.{rising_zones}
use Rattle.sync_core.proofs.Kept.{values_begun, names_begun}
use Rattle.sync_core.proofs.listed.in_order.Goals as goal

pub loop-name-init : goal.loop-name-init
loop-name-init c =
    record {
      zones = values_begun _ (rising_zones c.args.zones) _ c.new.ensures.items c.in_ok-sorted.ensures;
      names = names_begun _ (rising_zones c.args.zones) _ c.new-2.ensures.items c.in_ok-sorted.ensures;
    }
