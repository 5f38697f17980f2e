use Rattle.std.proofs.Common.{◌≡◌, ◌-◌, length}
use Rattle.std.specs.Prelude.{find}
use Rattle.std.specs.List.{range_with_len}
use Rattle.td_base.specs.FirstFault.{least}
use Rattle.tzif_reader.specs.Faults.{is_unknown}
use Rattle.tzif_reader.proofs.contents.first_unknown.Given as goal

abbrev pub invariant-loop-i : goal.invariant-loop-i
invariant-loop-i l = find (is_unknown l.typecnt l.numbers) (range_with_len l.i ((length l.numbers) - l.i)) ≡ least ((length l.numbers))
    (is_unknown l.typecnt l.numbers)
