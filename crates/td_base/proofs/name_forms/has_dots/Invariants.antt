use Rattle.std.proofs.Common.{◌≡◌, ◌+◌, length}
use Rattle.std.specs.Option.{option_copied, option_map_or}
use Rattle.std.specs.List.{list_any}
use Rattle.td_base.specs.Names.{segments, is_dots, segments_left}
use Rattle.td_base.proofs.name_forms.has_dots.Given as goal

abbrev pub invariant-loop-left : goal.invariant-loop-left
invariant-loop-left l = list_any is_dots (segments l.text) ≡ list_any is_dots (segments_left (option_copied l.left))

abbrev pub decreases-loop-left : goal.decreases-loop-left
decreases-loop-left l = option_map_or (λ r. length r.now + 1) l.left 0
