use Rattle.std.proofs.Common.{◌≡◌}
use Rattle.std.specs.Map.{values_of}
use Rattle.sync_core.specs.Keeping.{by_name}
use Rattle.sync_core.specs.Mirrors.{entry_name}
use Rattle.sync_core.specs.Names.{put_all}
use Rattle.sync_core.specs.Steps.{rising_zones}
use Rattle.sync_core.proofs.listed.sorted.Given as goal

abbrev pub invariant-loop-zone : goal.invariant-loop-zone
invariant-loop-zone l = record {
  named : l.sorted.entries ≡ by_name (values_of l.sorted.entries);
  whole : put_all entry_name l.zone-iterator.rest.items (values_of l.sorted.entries) ≡ rising_zones l.fn.zones;
}
