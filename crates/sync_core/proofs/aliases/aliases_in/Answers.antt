use Rattle.sync_core.proofs.Kept.{none_put}
use Rattle.sync_core.proofs.aliases.aliases_in.Goals as goal

pub loop-zone-init : goal.loop-zone-init
loop-zone-init c = λ name. none_put c.args.zones.now c.new-names.result.keys name c.new-names.ensures.empty
