use Rattle.recurrence.proofs.Apart.{apart_in_each_year}
use Rattle.recurrence.proofs.laws.apart_in_each_year.Goals as goal

pub returns : goal.returns
returns c = apart_in_each_year
