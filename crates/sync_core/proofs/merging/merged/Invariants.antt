use Rattle.std.proofs.Common.{◌≡◌, ◌+◌, ◌≤◌, ◌++◌, length, map}
use Rattle.std.specs.Vec.{vec_capacity}
use Rattle.catalogue.specs.Order.{IsRising}
use Rattle.sync_core.specs.Mirrors.{entry_name}
use Rattle.sync_core.specs.Names.{put_all}
use Rattle.sync_core.proofs.merging.merged.Given as goal

abbrev pub invariant-loop-zone : goal.invariant-loop-zone
invariant-loop-zone l = record {
  known : IsRising (map entry_name l.known.items);
  listed : IsRising (map entry_name l.listed.items);
  whole : l.merged.items ++ put_all entry_name l.listed.items l.known.items ≡ put_all entry_name l.fn.listed.items l.fn.known.items;
  room : length l.merged.items + (length l.known.items + length l.listed.items) ≤ vec_capacity l.merged;
}

abbrev pub decreases-loop-zone : goal.decreases-loop-zone
decreases-loop-zone l = length l.known.items + length l.listed.items
