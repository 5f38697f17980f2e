use Rattle.std.proofs.Common.{[], length, map, take}
use Rattle.catalogue.specs.Histories.{token_of}
use Rattle.catalogue.specs.Lookups.{delta}
use Rattle.json_forms.specs.Begun.{IsListBegun}
use Rattle.zone_meaning.specs.ZoneHistories.{ForEachZoneHistory}
use Rattle.actions.specs.Listing.{list_zone}
use Rattle.actions.proofs.listing.change_list.Given as goal

abbrev pub invariant-loop-at : goal.invariant-loop-at
invariant-loop-at l =
    ForEachZoneHistory l.fn.catalogue
    (λ H. IsListBegun [] (token_of H (length H)) (map list_zone (take l.at-index (delta H l.fn.place))) l.list)
