use Rattle.std.proofs.Common.{sym, ap, ◌∙◌, map}
use Rattle.std.proofs.lemmas.Simd.{map-map}
use Rattle.catalogue.specs.HeldZones.{held_entry}
use Rattle.catalogue.specs.Histories.{EntryData}
use Rattle.catalogue.proofs.holding.Catalogue.index.Goals as goal

pub returns : goal.returns
returns g c = λ H s.
    c.args.self.now.changes ∙ sym (map-map (λ (e : EntryData). e.changed) (held_entry g.Z.ZoneData.bytes) c.args.self.now.held)
    ∙ ap (map (λ (e : EntryData). e.changed)) s.entries
