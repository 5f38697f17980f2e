use Rattle.std.proofs.Common.{[], length, take}
use Rattle.catalogue.specs.Histories.{meta, token_of}
use Rattle.json_forms.specs.Begun.{IsListBegun}
use Rattle.zone_meaning.specs.ZoneHistories.{ForEachZoneHistory}
use Rattle.actions.proofs.lemmas.Chosen.{shown_zones}
use Rattle.actions.proofs.listing.list_body.Given as goal

abbrev pub invariant-loop-place : goal.invariant-loop-place
invariant-loop-place g l =
    ForEachZoneHistory l.fn.catalogue
    (λ H. IsListBegun [] (token_of H (length H)) (shown_zones (g.C.Choice.shows l.fn.choice) (take l.place (meta H))) l.list)
