use Rattle.vtimezone_reader.proofs.LeastOnset.{IsLeastAmong}
use Rattle.vtimezone_reader.proofs.least_onset.first_of_parts.Given as goal

abbrev pub invariant-loop-part : goal.invariant-loop-part
invariant-loop-part l = IsLeastAmong l.parts l.part-index l.first.seconds
