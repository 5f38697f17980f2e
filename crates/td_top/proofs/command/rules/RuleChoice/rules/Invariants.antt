use Rattle.std.proofs.Common.{◌≡◌, ◌++◌, drop, map}
use Rattle.td_top.specs.declared.command.rules.Named.{Named}
use Rattle.td_top.proofs.command.rules.RuleChoice.rules.Given as goal

abbrev pub invariant-loop-named : goal.invariant-loop-named
invariant-loop-named g l =
    l.chosen.items ++ map (λ (n : Named). n.rule) (drop l.named-index l.held) ≡ map (λ (n : Named). n.rule) l.held
