use Rattle.std.proofs.Common.{sym, ap, ◌∙◌}
use Rattle.td_top.specs.Command.{are_once, rules_then}
use Rattle.td_top.proofs.RuleLemmas.{after_rules, all_read, none_once, none_read, once_more, one_read, read_twice}
use Rattle.td_top.proofs.command.rules.read_rules.Goals as goal

pub rules-init : goal.rules-init
rules-init c = record {
  goes = ap (λ chosen. after_rules chosen (rules_then c.args.words.now)) c.new-choice.ensures ∙ none_read (rules_then c.args.words.now);
  once = ap are_once c.new-choice.ensures ∙ none_once;
}

pub returns-then-has : goal.returns-then-has
returns-then-has c =
    read_twice c.rules.left.now c.in-Some.rest.now c.rules.choice c.in-Some.rule (rules_then c.args.words.now) c.in-Some.ensures.next
    (sym c.has.ensures ∙ c.if-has.true) c.rules.invariant.goes

pub rules-preserved : goal.rules-preserved
rules-preserved c = record {
  goes = ap (λ chosen. after_rules chosen (rules_then c.in-Some.rest.now)) c.add.ensures
      ∙ one_read c.rules.left.now c.in-Some.rest.now c.rules.choice c.in-Some.rule (rules_then c.args.words.now) c.in-Some.ensures.next c.rules.invariant.goes;
  once = ap are_once c.add.ensures ∙ once_more c.rules.choice c.in-Some.rule c.rules.invariant.once (sym c.has.ensures ∙ c.if-has.false);
}

pub returns : goal.returns
returns c =
    all_read c.rules.left.now c.rules.choice (rules_then c.args.words.now) c.in_default.ensures.next c.rules.invariant.once c.rules.invariant.goes
