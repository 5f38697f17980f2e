use Rattle.std.proofs.Common.{◌≡◌, ◌++◌, drop}
use Rattle.serde_json.specs.View.{items_view}
use Rattle.json_forms.specs.ListReading.{zones_read}
use Rattle.json_forms.proofs.list_reader.zones_of.Given as goal

abbrev pub invariant-loop-entry : goal.invariant-loop-entry
invariant-loop-entry l = l.zones ++ zones_read (items_view (drop l.entry-index l.entries)) ≡ zones_read (items_view l.fn.entries)
