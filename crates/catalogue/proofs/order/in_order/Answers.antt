use Rattle.std.proofs.Common.{ap, ◌∙◌}
use Rattle.catalogue.specs.Order.{rising_by}
use Rattle.catalogue.specs.Releases.{ContentData, content_as_is}
use Rattle.catalogue.proofs.Sorting.{map-rising_by}
use Rattle.catalogue.proofs.order.in_order.Goals as goal

pub returns : goal.returns
returns g c =
    let tzid = λ (d : ContentData). d.tzid in
    rw (c.in_ok-contents.ensures)
    (map-rising_by (content_as_is g.Z.ZoneData.bytes) tzid c.in_ok-with_all_aliases_rising.field-0
    ∙ ap (rising_by tzid) c.in_ok-with_all_aliases_rising.ensures)
