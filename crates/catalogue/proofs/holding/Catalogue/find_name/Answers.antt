use Rattle.std.proofs.Common.{rules, ◌≡◌, ℕ, List, ◌∷◌, ap, sym, ◌∙◌, map, get_or, subst}
use Rattle.std.proofs.lemmas.List.{length-map}
use Rattle.std.proofs.lemmas.Fn.{always_returns_same}
use Rattle.std.proofs.lemmas.Simd.{map-map}
use Rattle.std.specs.List.{IsDistinct}
use Rattle.std.specs.Str.{bytes_eq}
use Rattle.catalogue.specs.HeldZones.{held_content, held_entry, held_names, indexed_names, numbered}
use Rattle.catalogue.specs.Histories.{meta}
use Rattle.catalogue.specs.Holdings.{StandsFor}
use Rattle.catalogue.specs.Lookups.{place_named}
use Rattle.catalogue.specs.Order.{rising_by}
use Rattle.catalogue.specs.Releases.{ContentData, ReleaseData, names_of}
use Rattle.catalogue.specs.declared.holding.Catalogue.{Catalogue}
use Rattle.catalogue.specs.declared.names.Name.{Name}
use Rattle.catalogue.proofs.lemmas.LastRelease.{last_of}
use Rattle.catalogue.proofs.lemmas.NameIndex.{entry_names, joined_names, joined-names_of, names_listed, zone_is_there, place_found, place_missed, compared}
use Rattle.catalogue.proofs.lemmas.NameIndex.{same_text, searchable, none_same}
use Rattle.catalogue.proofs.holding.Catalogue.find_name.Goals as goal

-- the names are those of the entries
names_are : {Z : Type 0} (bytes : Z → List ℕ) (sound : ReleaseData → Type 0) (k : Catalogue Z) (H : List ReleaseData) → StandsFor bytes sound k H
    → indexed_names k.names ≡ names_listed (meta H)
names_are bytes sound k H s =
    k.indexed ∙ ap (λ xss. rising_by (λ (n : Name). n.text) (numbered 0 xss))
    (sym (map-map entry_names (held_entry bytes) k.held) ∙ ap (map entry_names) s.entries)

-- and they are distinct
apart : {Z : Type 0} (bytes : Z → List ℕ) (sound : ReleaseData → Type 0) (k : Catalogue Z) (H : List ReleaseData) → StandsFor bytes sound k H
    → IsDistinct bytes_eq (joined_names (map entry_names (meta H)))
apart bytes sound k H s =
    let distinct = (last_of sound H _ s.history s.last).release.fits.distinct in
    let same : joined_names (map entry_names (meta H)) ≡ names_of (map (held_content bytes) k.held) =
    ap (λ es. joined_names (map entry_names es)) (sym s.entries)
    ∙ ap joined_names (map-map entry_names (held_entry bytes) k.held ∙ sym (map-map (λ (d : ContentData). d.tzid ∷ d.aliases) (held_content bytes) k.held))
    ∙ joined-names_of (map (held_content bytes) k.held) in
    subst (IsDistinct bytes_eq) (sym same) distinct

pub returns-in-Ok-clause-within : goal.returns-in-Ok-clause-within
returns-in-Ok-clause-within g c =
    let held = c.args.self.now.held in
    let names = c.as_slice-names.ensures ∙ c.deref.ensures ∙ c.args.self.now.indexed in
    rw names (rw (length-map held held_names) at
    (zone_is_there (map held_names held) c.in-Ok.found c.index-names-found.result (rw names at c.in-Ok.ensures.bound)))

pub returns-in-Ok-clause-place : goal.returns-in-Ok-clause-place
unfolding place_named
returns-in-Ok-clause-place g c = λ H s.
    let name = c.args.name.now in
    let names = c.as_slice-names.ensures ∙ c.deref.ensures ∙ names_are g.Z.ZoneData.bytes g.Z.ZoneData.sound c.args.self.now H s in
    let hit = c.in-Ok.ensures.position (compared name) (always_returns_same _ _ _ (λ a r f' called. search rules)) in
    rw names (place_found (meta H) name c.in-Ok.found c.index-names-found.result (apart g.Z.ZoneData.bytes g.Z.ZoneData.sound c.args.self.now H s)
    (rw names at c.in-Ok.ensures.bound)
    (rw names at (same_text name (get_or c.as_slice-names.result.now c.in-Ok.found c.index-names-found.result) (hit c.index-names-found.result))))

pub returns-in-Err-clause-place : goal.returns-in-Err-clause-place
unfolding place_named
returns-in-Err-clause-place g c = λ H s.
    let name = c.args.name.now in
    let names = c.as_slice-names.ensures ∙ c.deref.ensures ∙ names_are g.Z.ZoneData.bytes g.Z.ZoneData.sound c.args.self.now H s in
    let missed = c.in-Err.ensures.position (compared name) (always_returns_same _ _ _ (λ a r f' called. search rules)) in
    let parts = rw names at missed in
    place_missed (meta H) name (none_same name (names_listed (meta H)) c.in-Err.field-0 (parts (searchable (meta H) name)))
