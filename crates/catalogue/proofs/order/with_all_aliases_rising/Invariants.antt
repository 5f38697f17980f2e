use Rattle.std.proofs.Common.{◌≡◌, ◌++◌, map}
use Rattle.std.specs.Vec.Iter.{into_iter_items}
use Rattle.catalogue.specs.Releases.{content_as_is, content_data}
use Rattle.catalogue.proofs.order.with_all_aliases_rising.Given as goal

abbrev pub invariant-loop-content : goal.invariant-loop-content
invariant-loop-content g l = record {
  contents : map (content_as_is g.Z.ZoneData.bytes) l.contents.items ++ map (content_data g.Z.ZoneData.bytes) (into_iter_items l.content-iterator)
      ≡ map (content_data g.Z.ZoneData.bytes) l.fn.zones;
}
