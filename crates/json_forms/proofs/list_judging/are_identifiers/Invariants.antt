use Rattle.std.proofs.Common.{◌≡◌, drop}
use Rattle.serde_json.specs.View.{items_view}
use Rattle.json_forms.specs.ListReading.{are_identifiers}
use Rattle.json_forms.proofs.list_judging.are_identifiers.Given as goal

abbrev pub invariant-loop-value : goal.invariant-loop-value
invariant-loop-value l = are_identifiers (items_view (drop l.value-index l.values)) ≡ are_identifiers (items_view l.fn.values)
