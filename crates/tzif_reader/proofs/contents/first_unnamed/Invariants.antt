use Rattle.std.proofs.Common.{◌≡◌, ◌-◌}
use Rattle.std.specs.Prelude.{find}
use Rattle.std.specs.List.{range_with_len}
use Rattle.td_base.specs.FirstFault.{least}
use Rattle.tzif_reader.specs.Faults.{is_unnamed}
use Rattle.tzif_reader.proofs.contents.first_unnamed.Given as goal

abbrev pub invariant-loop-i : goal.invariant-loop-i
invariant-loop-i l = find (is_unnamed l.designations l.types) (range_with_len l.i (l.typecnt - l.i)) ≡ least (l.typecnt) (is_unnamed l.designations l.types)
