use Rattle.posix_footer.proofs.lemmas.OnsetLemmas.{month_day_is}
use Rattle.posix_footer.proofs.laws.day_of_week_form.Goals as goal

pub returns-clause-weekday : goal.returns-clause-weekday
returns-clause-weekday c year month week weekday low high = (month_day_is year month week weekday low high).0

pub returns-clause-within : goal.returns-clause-within
returns-clause-within c year month week weekday low high = (month_day_is year month week weekday low high).1

pub returns-clause-last : goal.returns-clause-last
returns-clause-last c year month week weekday low high = (month_day_is year month week weekday low high).2
