use Rattle.std.proofs.Common.{◌≡◌, ◌++◌, length, map}
use Rattle.ical_lines.specs.Unfolding.{cut_lines, content, joined}
use Rattle.ical_lines.specs.LineLengths.{joined_with}
use Rattle.ical_lines.proofs.reading.joined.Given as goal

abbrev pub invariant-lines : goal.invariant-lines
invariant-lines l = l.lines ++ joined_with l.begun (map content (cut_lines l.left)) ≡ joined (map content (cut_lines l.text))

abbrev pub decreases-lines : goal.decreases-lines
decreases-lines l = length l.left
