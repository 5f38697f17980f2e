use Rattle.std.proofs.Common.{◌≡◌, ◌++◌}
use Rattle.std.specs.Option.{option_copied}
use Rattle.vtimezone.specs.Cutting.{cut_at}
use Rattle.vtimezone_reader.specs.Pieces.{pieces}
use Rattle.vtimezone_reader.proofs.Counted.{count_of}
use Rattle.vtimezone_reader.proofs.part_lines.add_dates.Given as goal

abbrev pub invariant-dates : goal.invariant-dates
invariant-dates l = l.dates ++ pieces 44 (option_copied l.left) ≡ l.fn.dates ++ cut_at 44 l.value

abbrev pub decreases-dates : goal.decreases-dates
decreases-dates l = count_of (option_copied l.left)
