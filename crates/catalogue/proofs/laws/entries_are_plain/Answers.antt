use Rattle.catalogue.proofs.lemmas.PlainEntries.{entries_plain}
use Rattle.catalogue.proofs.laws.entries_are_plain.Goals as goal

pub returns : goal.returns
returns g c = entries_plain g.Z.ZoneData.sound g.met.Z.ZoneData.lengths g.met.Z.ZoneData.labels
