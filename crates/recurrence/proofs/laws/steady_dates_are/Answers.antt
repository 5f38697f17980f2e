use Rattle.recurrence.proofs.SameDates.{steady_is_same_dates}
use Rattle.recurrence.proofs.laws.steady_dates_are.Goals as goal

pub returns : goal.returns
returns c = steady_is_same_dates
