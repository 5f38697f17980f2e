use Rattle.std.proofs.Common.{◌≡◌, ◌+◌, drop}
use Rattle.ical_lines.specs.LineLengths.{line_len}
use Rattle.ical_lines.proofs.reading.first_line_len.Given as goal

abbrev pub invariant-loop-at : goal.invariant-loop-at
invariant-loop-at l = l.at + line_len (drop l.at l.text) ≡ line_len l.text
