use Rattle.std.proofs.Common.{◌≡◌, ◌++◌, drop}
use Rattle.serde_json.specs.View.{items_view}
use Rattle.json_forms.specs.ListReading.{texts_of}
use Rattle.json_forms.proofs.list_reader.texts_of.Given as goal

abbrev pub invariant-loop-value : goal.invariant-loop-value
invariant-loop-value l = l.texts ++ texts_of (items_view (drop l.value-index l.values)) ≡ texts_of (items_view l.fn.values)
