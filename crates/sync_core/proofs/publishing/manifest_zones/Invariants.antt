use Rattle.std.proofs.Common.{◌≡◌, ◌++◌, drop, map}
use Rattle.sync_core.specs.Published.{manifest_zone}
use Rattle.sync_core.proofs.publishing.manifest_zones.Given as goal

abbrev pub invariant-loop-zone : goal.invariant-loop-zone
invariant-loop-zone l = l.stated ++ map manifest_zone (drop l.zone-index l.zones) ≡ map manifest_zone l.zones
