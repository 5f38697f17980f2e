use Rattle.std.proofs.Common.{rules, tests, ap, ◌∙◌}
use Rattle.std.specs.List.{list_any}
use Rattle.std.proofs.lemmas.Iterator.{YieldsList-from_slice}
use Rattle.std.proofs.lemmas.Iterator.Search.{any_from_yields_List}
use Rattle.td_top.specs.Command.{has_kind, is_same_kind}
use Rattle.td_top.specs.declared.command.rules.Named.{Named}
use Rattle.td_top.proofs.RuleLemmas.{has_mapped}
use Rattle.td_top.proofs.command.rules.RuleChoice.has.Goals as goal

pub returns : goal.returns
returns c =
    any_from_yields_List (λ (n : Named). is_same_kind n.rule.kind c.args.kind) _ _ c.any.result c.any.ensures.ran
    (YieldsList-from_slice c.as_slice.result.now cc) (λ x b q k. search (rules, tests))
    ∙ ap (list_any (λ (n : Named). is_same_kind n.rule.kind c.args.kind)) c.as_slice.ensures.value
    ∙ has_mapped (λ (n : Named). n.rule) _ c.args.kind ∙ ap (has_kind c.args.kind) c.self.view_is
