use Rattle.std.proofs.Common.{◌≡◌, true}
use Rattle.posix_footer.specs.Carried.{is_carried_rule}
use Rattle.recurrence.proofs.lemmas.Onsets.{carried_parts}
use Rattle.recurrence.proofs.footer_rules.carry_rule.Goals as goal

pub rule_of-requires-clause-steady : goal.rule_of-requires-clause-steady
rule_of-requires-clause-steady c =
    let yes : is_carried_rule c.args.rule.now ≡ true = cc (c.is_carried_rule.ensures, c.if-is_carried_rule.true) in
    (carried_parts c.args.rule.now yes).0

pub rule_of-requires-then-is_carried_rule-clause-steady : goal.rule_of-requires-then-is_carried_rule-clause-steady
rule_of-requires-then-is_carried_rule-clause-steady c =
    let yes : is_carried_rule c.args.rule.now ≡ true = cc (c.is_carried_rule.ensures, c.if-is_carried_rule.true) in
    (carried_parts c.args.rule.now yes).1
