use Rattle.std.proofs.Common.{◌≡◌, drop}
use Rattle.release_check.specs.Faults.{identifier_fault}
use Rattle.release_check.proofs.manifest_judging.judge_identifiers.Given as goal

abbrev pub invariant-loop-number : goal.invariant-loop-number
invariant-loop-number l = identifier_fault l.number (drop l.number l.zones) ≡ identifier_fault 0 l.zones
