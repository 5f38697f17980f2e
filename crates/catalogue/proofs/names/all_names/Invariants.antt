use Rattle.std.proofs.Common.{◌≡◌, ◌++◌, map, drop}
use Rattle.catalogue.specs.HeldZones.{held_names, numbered}
use Rattle.catalogue.proofs.names.all_names.Given as goal

abbrev pub invariant-loop-zone : goal.invariant-loop-zone
invariant-loop-zone g l = l.names ++ numbered l.zone (map held_names (drop l.zone l.held)) ≡ numbered 0 (map held_names l.held)
