use Rattle.std.proofs.Common.{◌≡◌, ◌-◌, ◌++◌, map}
use Rattle.std.specs.List.{range_with_len}
use Rattle.made_load.specs.Releases.{made_zone}
use Rattle.made_load.proofs.zones.manifest_zones.Given as goal

abbrev pub invariant-loop-zone : goal.invariant-loop-zone
invariant-loop-zone l = l.zones ++ map made_zone (range_with_len l.zone (50 - l.zone)) ≡ map made_zone (range_with_len 0 50)
