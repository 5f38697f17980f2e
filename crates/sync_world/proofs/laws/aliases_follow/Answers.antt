use Rattle.sync_world.proofs.Led.{lists_lead_on}
use Rattle.sync_world.proofs.laws.aliases_follow.Goals as goal

pub returns : goal.returns
returns g c = lists_lead_on g.Z.ZoneData.sound
