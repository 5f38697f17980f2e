use Rattle.std.proofs.Common.{◌≡◌, Some, ap, ◌∙◌, get_or}
use Rattle.std.specs.List.{slice_get}
use Rattle.catalogue.specs.Histories.{meta}
use Rattle.catalogue.specs.Plain.{IsPlainEntry}
use Rattle.catalogue.specs.HeldZones.{entry_data, held_entry}
use Rattle.catalogue.proofs.lemmas.PlainEntries.{entries_plain, each_at, get_mapped}
use Rattle.catalogue.proofs.holding.Catalogue.entry.Goals as goal

pub returns-clause-plain : goal.returns-clause-plain
returns-clause-plain g c = λ H s.
    let laws = g.met.Z.ZoneData in
    let at : slice_get (meta H) c.args.i ≡ Some (entry_data g.Z.ZoneData.bytes c.deref.result.now.entry) =
    rw (← s.entries, c.deref.ensures) (get_mapped (held_entry g.Z.ZoneData.bytes) c.args.self.now.held c.args.i c.index-as_slice-i.result c.requires
    (c.index-as_slice-i.is ∙ ap (λ hs. get_or hs c.args.i c.index-as_slice-i.result) c.as_slice.ensures)) in
    each_at IsPlainEntry (meta H) c.args.i _ (entries_plain g.Z.ZoneData.sound laws.lengths laws.labels H s.history) at
