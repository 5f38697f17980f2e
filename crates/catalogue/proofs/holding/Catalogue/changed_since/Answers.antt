use Rattle.std.proofs.Common.{rules, ◌≡◌, ℕ, List, [], ap, sym, ◌∙◌, map, nat_lt}
use Rattle.std.specs.List.{slice_get}
use Rattle.change_index.specs.Positions.{positions}
use Rattle.catalogue.specs.HeldZones.{held_change, held_entry}
use Rattle.catalogue.specs.Histories.{EntryData, meta}
use Rattle.catalogue.specs.Holdings.{StandsFor}
use Rattle.catalogue.specs.Lookups.{delta, places_changed}
use Rattle.catalogue.specs.Releases.{ReleaseData}
use Rattle.catalogue.specs.declared.holding.Catalogue.{Catalogue}
use Rattle.catalogue.proofs.lemmas.Tokens.{positions-map, items_at}
use Rattle.catalogue.proofs.holding.Catalogue.changed_since.Goals as goal

places_are : {Z : Type 0} (bytes : Z → List ℕ) (sound : ReleaseData → Type 0) (k : Catalogue Z) (H : List ReleaseData) (n : ℕ) → StandsFor bytes sound k H
    → positions (λ change. nat_lt n change) 0 k.index ≡ places_changed H n
unfolding places_changed
places_are bytes sound k H n s =
    ap (positions (λ change. nat_lt n change) 0) k.changes ∙ positions-map (λ change. nat_lt n change) held_change 0 k.held
    ∙ sym (positions-map (λ (e : EntryData). nat_lt n e.changed) (held_entry bytes) 0 k.held) ∙ ap (positions (λ (e : EntryData). nat_lt n e.changed) 0) s.entries

entries_are : (H : List ReleaseData) (n : ℕ) → map (slice_get (meta H)) (places_changed H n) ≡ map Rattle.std.proofs.Common.Some (delta H n)
unfolding places_changed delta
entries_are H n = items_at (λ (e : EntryData). nat_lt n e.changed) [] (meta H)

pub returns-in-Ok-clause-positions : goal.returns-in-Ok-clause-positions
returns-in-Ok-clause-positions g c = λ H s.
    let made : c.from.result ≡ c.in-Ok.changed.items = search rules in
    made ∙ c.in-Ok.ensures ∙ places_are g.Z.ZoneData.bytes g.Z.ZoneData.sound c.args.self.now H c.args.n s

pub returns-in-Ok-clause-entries : goal.returns-in-Ok-clause-entries
returns-in-Ok-clause-entries g c = λ H s. ap (map (slice_get (meta H))) (returns-in-Ok-clause-positions g c H s) ∙ entries_are H c.args.n
