use Rattle.std.proofs.Common.{pos, ◌+ℤ◌, ◌-ℤ◌, ◌≤ℤ◌, ◌<ℤ◌, unsigned_abs}
use Rattle.vtimezone_reader.specs.Onsets.{is_rule_onset}
use Rattle.vtimezone_reader.specs.Turns.{AddsTurns}
use Rattle.vtimezone_reader.proofs.turns.add_falls.Given as goal

abbrev pub invariant-onsets : goal.invariant-onsets
invariant-onsets l = record {
  begun : l.fn.from.seconds ≤ℤ l.at.seconds;
  ahead : l.at.seconds <ℤ l.end.seconds;
  adds : AddsTurns (is_rule_onset l.part l.rule) l.place l.fn.from.seconds (l.at.seconds +ℤ pos 1) l.fn.turns.items l.turns.items;
}

abbrev pub decreases-onsets : goal.decreases-onsets
decreases-onsets l = unsigned_abs (l.end.seconds -ℤ l.at.seconds)
