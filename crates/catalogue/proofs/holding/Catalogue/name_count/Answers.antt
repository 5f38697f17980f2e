use Rattle.std.proofs.Common.{◌∙◌, ap, length}
use Rattle.catalogue.proofs.NamesHeld.{name_count_held}
use Rattle.catalogue.proofs.holding.Catalogue.name_count.Goals as goal

pub returns : goal.returns
returns g c = c.len.ensures ∙ ap length c.deref.ensures ∙ name_count_held g.Z.ZoneData.bytes c.args.self.now
