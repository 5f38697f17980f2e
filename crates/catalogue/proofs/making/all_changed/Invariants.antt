use Rattle.std.proofs.Common.{◌≡◌, ◌++◌, [], map}
use Rattle.std.specs.List.{AllByRecursion}
use Rattle.std.specs.Vec.Iter.{into_iter_items}
use Rattle.catalogue.specs.Releases.{IsShort, content_as_is}
use Rattle.catalogue.specs.Digests.{content_digest}
use Rattle.catalogue.specs.Histories.{entry_from}
use Rattle.catalogue.specs.HeldZones.{held_digest, held_entry}
use Rattle.catalogue.specs.Holdings.{release_of}
use Rattle.catalogue.proofs.making.all_changed.Given as goal

abbrev pub invariant-loop-content : goal.invariant-loop-content
invariant-loop-content g l = record {
  entries : map (held_entry g.Z.ZoneData.bytes) l.held.items
      ++ map (entry_from (release_of l.head []) l.place) (map (content_as_is g.Z.ZoneData.bytes) (into_iter_items l.content-iterator))
      ≡ map (entry_from (release_of l.head []) l.place) (map (content_as_is g.Z.ZoneData.bytes) l.fn.contents);
  digests : map held_digest l.held.items
      ++ map content_digest (map (content_as_is g.Z.ZoneData.bytes) (into_iter_items l.content-iterator))
      ≡ map content_digest (map (content_as_is g.Z.ZoneData.bytes) l.fn.contents);
  short : AllByRecursion (λ c. IsShort (content_as_is g.Z.ZoneData.bytes c)) (into_iter_items l.content-iterator);
}
