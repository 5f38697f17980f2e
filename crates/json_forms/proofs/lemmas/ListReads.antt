-- The text of a list reads as the tree.
use Rattle.std.proofs.Common.{◌≡◌, ℕ, List, [], ◌∷◌, map, Some, refl, arith}
use Rattle.std.specs.Prelude.{⊤}
use Rattle.std.specs.List.{AllByRecursion}
use Rattle.serde_json.specs.Data.{string}
use Rattle.serde_json.specs.Read.{read, max_depth}
use Rattle.serde_json.specs.View.{items_of}
use Rattle.json_forms.specs.declared.zone_list.ListZone.{ListZone}
use Rattle.json_forms.specs.ListDocument.{strings, zone_data, list_data, list_document}
use Rattle.json_forms.proofs.ReadBack.{IsReadable, AreReadable, items_readable, read_back}

all_are : {A : Type 0} (xs : List A) → AllByRecursion (λ _. ⊤) xs
all_are [] = tt
all_are (x ∷ xs) = (tt, all_are xs)

strings_readable : (texts : List (List ℕ)) → AreReadable 0 (items_of (map string texts))
strings_readable texts =
    items_readable 0 string (λ _. ⊤) (λ text h. record { same = refl; shallow = omega arith; numbers = tt }) texts (all_are texts)

zone_with : (aliases : List (List ℕ)) (z : ListZone) → z.aliases ≡ aliases → IsReadable 2 (zone_data z)
unfolding zone_data strings
zone_with [] z none = rw none (record { same = refl; shallow = omega arith; numbers = (tt, (tt, (tt, (tt, (tt, tt))))) })
zone_with (alias ∷ aliases) z some =
    let items = strings_readable (alias ∷ aliases) in
    rw some (record { same = rw items.same refl; shallow = omega (arith, items.shallow); numbers = (items.numbers, (tt, (tt, (tt, (tt, (tt, tt)))))) })

zone_readable : (z : ListZone) → IsReadable 2 (zone_data z)
zone_readable z = zone_with z.aliases z refl

list_readable : (token : List ℕ) (zones : List ListZone) → IsReadable max_depth (list_data token zones)
unfolding list_data
list_readable token zones =
    let items = items_readable 2 zone_data (λ _. ⊤) (λ z h. zone_readable z) zones (all_are zones) in
    record { same = rw items.same refl; shallow = omega (arith, items.shallow); numbers = (tt, (items.numbers, tt)) }

pub list_reads : (token : List ℕ) (zones : List ListZone) → read (list_document token zones) ≡ Some (list_data token zones)
unfolding list_document
list_reads token zones = read_back (list_data token zones) (list_readable token zones)
