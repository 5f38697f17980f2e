use Rattle.catalogue.proofs.AnyOrder.{fits_in_any_order}
use Rattle.catalogue.proofs.laws.order_is_free.Goals as goal

pub returns : goal.returns
returns g c = fits_in_any_order g.Z.ZoneData.bytes
