use Rattle.std.proofs.Common.{◌≡◌, map, drop, true}
use Rattle.std.specs.List.{list_any}
use Rattle.admission.specs.Rules.{same_kind}
use Rattle.admission.proofs.asking.is_allowed.Given as goal

-- the kind is one of those that are left
abbrev pub invariant-loop-test : goal.invariant-loop-test
invariant-loop-test g l = list_any (same_kind l.rule.kind) (map (λ k. k.kind) (drop l.test-index l.kept)) ≡ true
