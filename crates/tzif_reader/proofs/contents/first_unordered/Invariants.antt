use Rattle.std.proofs.Common.{◌≡◌, ◌-◌}
use Rattle.std.specs.Prelude.{find}
use Rattle.std.specs.List.{range_with_len}
use Rattle.td_base.specs.FirstFault.{least}
use Rattle.tzif_reader.specs.Faults.{is_unordered}
use Rattle.tzif_reader.proofs.contents.first_unordered.Given as goal

abbrev pub invariant-loop-i : goal.invariant-loop-i
invariant-loop-i l = find (is_unordered l.times) (range_with_len l.i (l.timecnt - l.i)) ≡ least (l.timecnt) (is_unordered l.times)
