use Rattle.recurrence.proofs.Said.{carry_rule_said}
use Rattle.recurrence.proofs.footer_rules.carry.Goals as goal

pub returns-in-Some-clause-says : goal.returns-in-Some-clause-says
returns-in-Some-clause-says c =
    carry_rule_said c.args.footer.now c.in-Some.rule c.carry_rule.result c.requires c.in-Some.is c.carry_rule.ensures
