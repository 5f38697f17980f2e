use Rattle.std.proofs.Common.{◌≡◌, true, length}
use Rattle.td_top.specs.Command.{are_once, rules_then}
use Rattle.td_top.proofs.RuleLemmas.{after_rules}
use Rattle.td_top.proofs.command.rules.read_rules.Given as goal

abbrev pub invariant-rules : goal.invariant-rules
invariant-rules l = record {
  goes : after_rules l.choice (rules_then l.left) ≡ rules_then l.words;
  once : are_once l.choice ≡ true;
}

abbrev pub decreases-rules : goal.decreases-rules
decreases-rules l = length l.left
