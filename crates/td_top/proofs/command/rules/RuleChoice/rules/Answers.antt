use Rattle.std.proofs.Common.{◌≤◌, length}
use Rattle.admission.proofs.lemmas.Keeping.{all_kept}
use Rattle.td_top.specs.declared.command.rules.Named.{Named}
use Rattle.td_top.proofs.RuleLemmas.{few_rules}
use Rattle.td_top.proofs.command.rules.RuleChoice.rules.Goals as goal

pub new-requires : goal.new-requires
new-requires g c =
    let few : length c.as_slice-held.result.now ≤ 2 = c.as_slice-held.ensures.fits in (
      all_kept _ _ c.requires,
      few_rules (λ (n : Named). n.rule) c.as_slice-held.result.now c.loop-named.named-index c.loop-named.chosen.items c.loop-named.invariant few,
    )
