use Rattle.td_civil.proofs.lemmas.Counting.{plain_date_is}
use Rattle.td_civil.proofs.day_numbers.date_after.Goals as goal

pub returns-clause-year : goal.returns-clause-year
returns-clause-year c = (plain_date_is c.from_days_since_min.result c.args.days c.requires c.from_days_since_min.ensures).0

pub returns-clause-month : goal.returns-clause-month
returns-clause-month c = (plain_date_is c.from_days_since_min.result c.args.days c.requires c.from_days_since_min.ensures).1

pub returns-clause-day : goal.returns-clause-day
returns-clause-day c = (plain_date_is c.from_days_since_min.result c.args.days c.requires c.from_days_since_min.ensures).2
