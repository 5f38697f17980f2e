use Rattle.std.proofs.Common.{◌≡◌, ◌++◌, map, drop}
use Rattle.catalogue.specs.Lookups.{zones_of}
use Rattle.catalogue.specs.Releases.{content_data}
use Rattle.zone_meaning.specs.ZoneHistories.{ForEachZoneHistory, zone_bytes}
use Rattle.admission.specs.Differences.{content_changes}
use Rattle.admission.proofs.differing.changes_in.Given as goal

-- what is listed, with what is left, is the whole
abbrev pub invariant-loop-at : goal.invariant-loop-at
invariant-loop-at l = ForEachZoneHistory l.last (λ H.
    l.changed ++ content_changes (zones_of H) (drop l.at (map (λ z. content_data zone_bytes z.now) l.zones))
    ≡ content_changes (zones_of H) (map (λ z. content_data zone_bytes z.now) l.zones))
