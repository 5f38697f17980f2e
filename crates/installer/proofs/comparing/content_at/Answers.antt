use Rattle.catalogue.specs.HeldZones.{entry_data, held_entry}
use Rattle.catalogue.specs.Histories.{EntryData, meta}
use Rattle.zone_meaning.specs.ZoneHistories.{zone_bytes}
use Rattle.installer.proofs.Stated.{content_held}
use Rattle.installer.proofs.comparing.content_at.Goals as goal

pub returns : goal.returns
returns c =
    let H = c.requires.held.0 in
    let stands = c.requires.held.1 in
    content_held (held_entry zone_bytes) (λ (d : EntryData). d.content) c.args.last.now.held (meta H) c.args.at (entry_data zone_bytes c.entry.result.now)
    stands.entries (c.entry.ensures.entry H stands)
