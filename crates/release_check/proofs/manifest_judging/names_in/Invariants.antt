use Rattle.std.proofs.Common.{◌≡◌, ◌++◌, map, drop}
use Rattle.release_check.specs.Faults.{names_in}
use Rattle.release_check.proofs.manifest_judging.names_in.Given as goal

abbrev pub invariant-loop-zone : goal.invariant-loop-zone
invariant-loop-zone l = map (λ n. n.now) l.names.items ++ names_in (drop l.zone-index l.zones) ≡ names_in l.zones
