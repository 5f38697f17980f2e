-- The text of a table of leap seconds reads as the tree.
use Rattle.std.proofs.Common.{◌≡◌, ℕ, List, Some, refl, arith}
use Rattle.std.specs.List.{AllByRecursion}
use Rattle.serde_json.specs.Read.{read, max_depth}
use Rattle.catalogue.specs.declared.release.Leaps.{Leaps}
use Rattle.catalogue.specs.declared.release.LeapStep.{LeapStep}
use Rattle.json_forms.specs.LeapDocument.{step_data, leap_data, leap_document, HasOffset}
use Rattle.json_forms.proofs.Integers.{integer_same, integer_is_number}
use Rattle.json_forms.proofs.ReadBack.{IsReadable, items_readable, read_back}

step_readable : (step : LeapStep) → HasOffset step → IsReadable 1 (step_data step)
unfolding step_data
step_readable step fits = record {
  same = rw (integer_same step.offset fits) refl;
  shallow = omega arith;
  numbers = (tt, (integer_is_number step.offset fits, tt));
}

table_readable : (leaps : Leaps) (publisher version : List ℕ) → AllByRecursion HasOffset leaps.steps → IsReadable max_depth (leap_data leaps publisher version)
unfolding leap_data
table_readable leaps publisher version all =
    let items = items_readable 1 step_data HasOffset step_readable leaps.steps all in
    record { same = rw items.same refl; shallow = omega (arith, items.shallow); numbers = (tt, (items.numbers, (tt, (tt, tt)))) }

pub table_reads : (leaps : Leaps) (publisher version : List ℕ) → AllByRecursion HasOffset leaps.steps
    → read (leap_document leaps publisher version) ≡ Some (leap_data leaps publisher version)
unfolding leap_document
table_reads leaps publisher version all = read_back (leap_data leaps publisher version) (table_readable leaps publisher version all)
