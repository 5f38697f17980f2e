use Rattle.std.proofs.Common.{◌≡◌, option_copied}
use Rattle.std.specs.List.{list_any}
use Rattle.td_base.specs.Texts.{left_of, pieces_left}
use Rattle.stretches.specs.Costs.{is_costly, is_costly_line}
use Rattle.stretches.proofs.costs.is_costly.Given as goal

abbrev pub invariant-lines : goal.invariant-lines
invariant-lines l = list_any is_costly_line (pieces_left 10 (option_copied l.left)) ≡ is_costly l.fn.bytes

abbrev pub decreases-lines : goal.decreases-lines
decreases-lines l = left_of (option_copied l.left)
