use Rattle.std.proofs.Common.{◌≡◌, ◌++◌, drop, map}
use Rattle.catalogue.specs.HeldZones.{held_change}
use Rattle.catalogue.proofs.changes.last_changes.Given as goal

abbrev pub invariant-loop-one : goal.invariant-loop-one
invariant-loop-one g l = l.changes.items ++ map held_change (drop l.one-index l.held) ≡ map held_change l.held
