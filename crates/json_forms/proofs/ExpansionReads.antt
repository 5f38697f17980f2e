-- The text of an expansion reads as the tree.
use Rattle.std.proofs.Common.{◌≡◌, ℕ, ℤ, List, Some, refl, arith}
use Rattle.std.specs.List.{AllByRecursion}
use Rattle.serde_json.specs.Read.{read, max_depth}
use Rattle.td_civil.specs.declared.local_time.Observance.{Observance}
use Rattle.json_forms.specs.ExpansionDocument.{observance_data, expansion_data, expansion_document, HasOffsets}
use Rattle.json_forms.proofs.Integers.{integer_same, integer_is_number}
use Rattle.json_forms.proofs.ReadBack.{IsReadable, items_readable, read_back}

observance_readable : (o : Observance) → HasOffsets o → IsReadable 1 (observance_data o)
unfolding observance_data
observance_readable o h = record {
  same = rw (integer_same o.from h.from, integer_same o.to h.to) refl;
  shallow = omega arith;
  numbers = (tt, (tt, (integer_is_number o.from h.from, (integer_is_number o.to h.to, tt))));
}

expansion_readable : (tzid : List ℕ) (from until : ℤ) (observances : List Observance) → AllByRecursion HasOffsets observances
    → IsReadable max_depth (expansion_data tzid from until observances)
unfolding expansion_data
expansion_readable tzid from until observances all =
    let items = items_readable 1 observance_data HasOffsets observance_readable observances all in
    record { same = rw items.same refl; shallow = omega (arith, items.shallow); numbers = (tt, (items.numbers, (tt, (tt, tt)))) }

pub expansion_reads : (tzid : List ℕ) (from until : ℤ) (observances : List Observance) → AllByRecursion HasOffsets observances
    → read (expansion_document tzid from until observances) ≡ Some (expansion_data tzid from until observances)
unfolding expansion_document
expansion_reads tzid from until observances all =
    read_back (expansion_data tzid from until observances) (expansion_readable tzid from until observances all)
