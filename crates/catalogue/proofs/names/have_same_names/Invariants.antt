use Rattle.std.proofs.Common.{◌≡◌, map, take}
use Rattle.catalogue.specs.HeldZones.{held_names}
use Rattle.catalogue.proofs.names.have_same_names.Given as goal

abbrev pub invariant-loop-at : goal.invariant-loop-at
invariant-loop-at g l = map held_names (take l.at l.zones) ≡ map held_names (take l.at l.others)
