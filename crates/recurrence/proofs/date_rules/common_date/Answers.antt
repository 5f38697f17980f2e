use Rattle.std.proofs.Common.{◌∙◌, ap, ◌+◌, arith, pos}
use Rattle.td_civil.proofs.lemmas.Counting.{plain_date_is}
use Rattle.recurrence.specs.RuleOfDate.{common_date}
use Rattle.recurrence.proofs.date_rules.common_date.Goals as goal

pub returns-clause-month : goal.returns-clause-month
unfolding common_date
returns-clause-month c = (plain_date_is c.from_days_since_min.result (730851 + c.args.place) (omega arith)
    (c.from_days_since_min.ensures ∙ ap pos (omega (arith, c.from.ensures)))).1

pub returns-clause-day : goal.returns-clause-day
unfolding common_date
returns-clause-day c = (plain_date_is c.from_days_since_min.result (730851 + c.args.place) (omega arith)
    (c.from_days_since_min.ensures ∙ ap pos (omega (arith, c.from.ensures)))).2
