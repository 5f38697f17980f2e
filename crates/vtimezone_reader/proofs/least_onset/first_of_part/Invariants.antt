use Rattle.vtimezone_reader.proofs.LeastOnset.{IsLeastOf}
use Rattle.vtimezone_reader.proofs.least_onset.first_of_part.Given as goal

abbrev pub invariant-loop-date : goal.invariant-loop-date
invariant-loop-date l = IsLeastOf l.part l.date-index l.first.seconds
