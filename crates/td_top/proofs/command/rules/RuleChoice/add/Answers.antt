use Rattle.std.proofs.Common.{ap, ◌∙◌, arith}
use Rattle.td_top.specs.Command.{are_once, has_kind}
use Rattle.td_top.specs.declared.command.rules.Named.{Named}
use Rattle.td_top.proofs.RuleLemmas.{has_room}
use Rattle.td_top.proofs.command.rules.RuleChoice.add.Goals as goal

pub push-requires : goal.push-requires
push-requires c = (
  omega arith,
  has_room (λ (n : Named). n.rule) c.self.inside.held.items c.args.rule.kind (ap are_once c.self.view_is ∙ c.requires.once)
      (ap (has_kind c.args.rule.kind) c.self.view_is ∙ c.requires.new),
)
