use Rattle.std.proofs.Common.{◌≡◌, ◌≤◌, ◌-◌, length}
use Rattle.ical_lines.specs.Unfolding.{cut_lines, first_bad}
use Rattle.ical_lines.proofs.reading.first_bad.Given as goal

abbrev pub invariant-lines : goal.invariant-lines
invariant-lines l = record {
  inside : length l.left ≤ length l.text;
  places : first_bad (length l.text - length l.left) (cut_lines l.left) ≡ first_bad 0 (cut_lines l.text);
}

abbrev pub decreases-lines : goal.decreases-lines
decreases-lines l = length l.left
