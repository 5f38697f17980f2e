use Rattle.std.proofs.Common.{◌≡◌, ◌-◌}
use Rattle.std.specs.Prelude.{find}
use Rattle.std.specs.List.{range_with_len}
use Rattle.td_base.specs.FirstFault.{least}
use Rattle.tzif_reader.specs.Faults.{is_unflagged}
use Rattle.tzif_reader.specs.Views.{parts_view}
use Rattle.tzif_reader.proofs.contents.first_unflagged.Given as goal

abbrev pub invariant-loop-i : goal.invariant-loop-i
invariant-loop-i l = find (is_unflagged (parts_view l.block)) (range_with_len l.i (l.typecnt - l.i)) ≡ least (l.typecnt) (is_unflagged (parts_view l.block))
