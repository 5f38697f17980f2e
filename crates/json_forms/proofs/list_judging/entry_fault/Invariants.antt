use Rattle.std.proofs.Common.{◌≡◌, ◌+◌, drop}
use Rattle.serde_json.specs.View.{items_view}
use Rattle.json_forms.specs.ListReading.{entry_fault}
use Rattle.json_forms.proofs.list_judging.entry_fault.Given as goal

abbrev pub invariant-loop-at : goal.invariant-loop-at
invariant-loop-at l = entry_fault (l.at + 1) (items_view (drop l.at l.entries)) ≡ entry_fault 1 (items_view l.fn.entries)
