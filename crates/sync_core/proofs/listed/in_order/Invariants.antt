use Rattle.std.proofs.Common.{◌≡◌, ◌++◌, map, length}
use Rattle.std.specs.Map.{keys_of, values_of}
use Rattle.sync_core.specs.Mirrors.{entry_name}
use Rattle.sync_core.specs.Steps.{rising_zones}
use Rattle.sync_core.proofs.listed.in_order.Given as goal

abbrev pub invariant-loop-name : goal.invariant-loop-name
invariant-loop-name l = record {
  zones : l.listed.zones.items ++ values_of l.sorted.entries ≡ rising_zones l.fn.zones;
  names : l.listed.names.items ++ keys_of l.sorted.entries ≡ map entry_name (rising_zones l.fn.zones);
}

abbrev pub decreases-loop-name : goal.decreases-loop-name
decreases-loop-name l = length l.sorted.entries
