use Rattle.catalogue.proofs.lemmas.Growing.{history_grown}
use Rattle.catalogue.proofs.laws.histories_grow.Goals as goal

pub returns : goal.returns
returns g c = history_grown g.Z.ZoneData.sound
