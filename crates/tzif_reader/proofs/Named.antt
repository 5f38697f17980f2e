-- What is known of the fields where nothing is wrong with them.
use Rattle.std.proofs.Common.{◌≡◌, None}
use Rattle.std.specs.Option.{option_map}
use Rattle.td_base.specs.FirstFault.{least}
use Rattle.td_base.proofs.lemmas.FaultLemmas.{first, second, unmapped}
use Rattle.tzif_reader.specs.declared.counts.Counts.{Counts}
use Rattle.tzif_reader.specs.declared.tzif_fault.TzifFault.TheVariants.{Order, TypeNumber, Designation}
use Rattle.tzif_reader.specs.Cut.{Parts}
use Rattle.tzif_reader.specs.Faults.{contents_fault, is_unordered, is_unknown, is_unnamed}

-- each type has a name, where nothing is wrong with the fields
pub named : (c : Counts) (p : Parts) → contents_fault c p ≡ None → least c.typecnt (is_unnamed p.designations p.types) ≡ None
unfolding contents_fault
named c p h =
    let a = second (option_map Order (least c.timecnt (is_unordered p.times))) _ h in
    let b = second (option_map TypeNumber (least c.timecnt (is_unknown c.typecnt p.numbers))) _ a in
    unmapped Designation (least c.typecnt (is_unnamed p.designations p.types)) (first _ _ b)
