use Rattle.jcal.proofs.TreeTokens.{rule_written}
use Rattle.jcal.proofs.parts.put_rule.Goals as goal

pub returns-in_ok-end_array-clause-tokens : goal.returns-in_ok-end_array-clause-tokens
returns-in_ok-end_array-clause-tokens c =
    rule_written c.args.rule.now c.in-Some.rule c.args.until _ _ _ _
    c.in_ok-begin_property.ensures.tokens c.in_ok-put_recur.ensures.tokens c.in_ok-end_array.ensures.ok c.in-Some.is
