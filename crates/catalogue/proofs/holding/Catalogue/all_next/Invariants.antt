use Rattle.std.proofs.Common.{◌≡◌, ◌+◌, ◌++◌, [], map, length}
use Rattle.std.specs.List.{AllByRecursion}
use Rattle.std.specs.Vec.Iter.{into_iter_items}
use Rattle.catalogue.specs.Releases.{IsShort, content_as_is}
use Rattle.catalogue.specs.Digests.{content_digest}
use Rattle.catalogue.specs.Growing.{entry_next}
use Rattle.catalogue.specs.HeldZones.{held_digest, held_entry}
use Rattle.catalogue.specs.Holdings.{ForEachHistory, release_held, release_of}
use Rattle.catalogue.proofs.holding.Catalogue.all_next.Given as goal

abbrev pub invariant-loop-content : goal.invariant-loop-content
invariant-loop-content g l = record {
  count : length l.held.items + length (into_iter_items l.content-iterator) ≡ length l.fn.contents;
  entries : ForEachHistory g.Z.ZoneData.bytes g.Z.ZoneData.sound l.self (λ H. map (held_entry g.Z.ZoneData.bytes) l.held.items
      ++ map (entry_next H (release_held g.Z.ZoneData.bytes l.self) (release_of l.head []) l.place)
      (map (content_as_is g.Z.ZoneData.bytes) (into_iter_items l.content-iterator))
      ≡ map (entry_next H (release_held g.Z.ZoneData.bytes l.self) (release_of l.head []) l.place) (map (content_as_is g.Z.ZoneData.bytes) l.fn.contents));
  digests : ForEachHistory g.Z.ZoneData.bytes g.Z.ZoneData.sound l.self (λ H. map held_digest l.held.items
      ++ map content_digest (map (content_as_is g.Z.ZoneData.bytes) (into_iter_items l.content-iterator))
      ≡ map content_digest (map (content_as_is g.Z.ZoneData.bytes) l.fn.contents));
  short : AllByRecursion (λ c. IsShort (content_as_is g.Z.ZoneData.bytes c)) (into_iter_items l.content-iterator);
}
