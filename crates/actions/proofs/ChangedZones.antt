-- The zones of a list of changes, position after position.
use Rattle.std.proofs.Common.{◌≡◌, ℕ, zero, suc, ◌+◌, ◌<◌, List, [], ◌∷◌, ◌++◌, length, take, map, Some, refl, ap, sym, ◌∙◌, arith, add-one}
use Rattle.std.specs.List.{slice_get}
use Rattle.std.proofs.lemmas.List.{length-map}
use Rattle.std.proofs.lemmas.Option.{slice_get_within}
use Rattle.catalogue.specs.HeldZones.{held_entry}
use Rattle.catalogue.specs.Histories.{EntryData, meta}
use Rattle.catalogue.specs.Holdings.{StandsFor, zone_count}
use Rattle.catalogue.specs.Releases.{ReleaseData}
use Rattle.catalogue.specs.declared.holding.Catalogue.{Catalogue}
use Rattle.json_forms.specs.declared.zone_list.ListZone.{ListZone}
use Rattle.zone_meaning.specs.Sound.{IsSound}
use Rattle.actions.specs.Listing.{list_zone}

-- a position at which there is an item of a list
pub record IsFound {A : Type 0} (items : List A) (found : List A) (k at : ℕ) : Type 0 where
  pub item : A
  pub there : slice_get items at ≡ Some item
  pub listed : slice_get found k ≡ Some item

pub found_at : {A : Type 0} (items : List A) (places : List ℕ) (found : List A) (k at : ℕ) → map (slice_get items) places ≡ map Some found
    → slice_get places k ≡ Some at → IsFound items found k at
found_at items [] found k at e is = absurd cc
found_at items (p ∷ ps) [] k at e is = absurd cc
found_at items (p ∷ ps) (x ∷ xs) zero at e is =
    let same : p ≡ at = cc in
    let there : slice_get items p ≡ Some x = cc in
    record { item = x; there = ap (slice_get items) (sym same) ∙ there; listed = refl }
found_at items (p ∷ ps) (x ∷ xs) (suc k) at e is =
    let rest = found_at items ps xs k at (cc) is in
    record { item = rest.item; there = rest.there; listed = rest.listed }

-- as many positions as items
pub as_many : {A : Type 0} (items : List A) (places : List ℕ) (found : List A) → map (slice_get items) places ≡ map Some found → length places ≡ length found
as_many items [] [] e = refl
as_many items [] (x ∷ xs) e = absurd cc
as_many items (p ∷ ps) [] e = absurd cc
as_many items (p ∷ ps) (x ∷ xs) e = ap suc (as_many items ps xs cc)

take_one : {A : Type 0} (xs : List A) (k : ℕ) (x : A) → slice_get xs k ≡ Some x → take (suc k) xs ≡ take k xs ++ (x ∷ [])
take_one [] k x is = absurd cc
take_one (y ∷ ys) zero x is = let same : y ≡ x = cc in ap (λ z. z ∷ []) same
take_one (y ∷ ys) (suc k) x is = ap (λ zs. y ∷ zs) (take_one ys k x is)

map_two : (es : List EntryData) (e : EntryData) → map list_zone (es ++ (e ∷ [])) ≡ map list_zone es ++ (list_zone e ∷ [])
map_two [] e = refl
map_two (x ∷ es) e = ap (λ zs. list_zone x ∷ zs) (map_two es e)

-- one more zone of a list
pub next_change : (all changed : List EntryData) (places : List ℕ) (k at : ℕ) (e : EntryData) (z : ListZone)
    → map (slice_get all) places ≡ map Some changed
    → slice_get places k ≡ Some at → slice_get all at ≡ Some e → z ≡ list_zone e
    → map list_zone (take k changed) ++ (z ∷ []) ≡ map list_zone (take (k + 1) changed)
next_change all changed places k at e z same is there told =
    let found = found_at all places changed k at same is in
    let one : found.item ≡ e = cc (found.there) in
    rw (told, ← one, add-one k) (sym (ap (map list_zone) (take_one changed k found.item found.listed) ∙ map_two (take k changed) found.item))

-- each position is one of the catalogue
pub change_within : (c : Catalogue (List ℕ)) (H : List ReleaseData) (changed : List EntryData) (places : List ℕ) (k at : ℕ)
    → StandsFor {Z = List ℕ} (λ file. file) IsSound c H → map (slice_get (meta H)) places ≡ map Some changed
    → slice_get places k ≡ Some at → at < zone_count c
change_within c H changed places k at stands same is =
    let found = found_at (meta H) places changed k at same is in
    let within : at < length (meta H) = slice_get_within (meta H) at found.item found.there in
    let many : length c.held ≡ length (meta H) = sym (length-map c.held (held_entry {Z = List ℕ} (λ file. file))) ∙ ap length stands.entries in
    omega arith
