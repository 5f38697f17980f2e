use Rattle.std.proofs.Common.{◌≡◌, ◌+◌, ◌≤◌, drop}
use Rattle.serde_json.specs.View.{items_view}
use Rattle.catalogue.specs.declared.limits.TheConstants.{MOST_NAMES}
use Rattle.json_forms.specs.ListReading.{name_count}
use Rattle.json_forms.proofs.list_judging.has_few_names.Given as goal

abbrev pub invariant-loop-entry : goal.invariant-loop-entry
invariant-loop-entry l = record {
  counted : name_count (items_view l.fn.entries) + l.left ≡ MOST_NAMES + name_count (items_view (drop l.entry-index l.entries));
  within : l.left ≤ MOST_NAMES;
}
