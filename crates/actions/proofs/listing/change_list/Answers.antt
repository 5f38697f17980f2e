use Rattle.std.proofs.Common.{◌≡◌, ◌≤◌, [], length, map, List, IfOk, subst, ap, ◌∙◌, arith}
use Rattle.std.proofs.lemmas.List.{take_all}
use Rattle.std.proofs.lemmas.Option.{slice_get-get_or}
use Rattle.std.specs.List.{slice_get}
use Rattle.catalogue.specs.Histories.{meta, token_of}
use Rattle.catalogue.specs.Lookups.{delta}
use Rattle.json_forms.specs.Begun.{IsListBegun}
use Rattle.json_forms.specs.ListDocument.{list_document}
use Rattle.json_forms.specs.declared.zone_list.ListZone.{ListZone}
use Rattle.actions.specs.Listing.{change_list, list_zone}
use Rattle.actions.proofs.ChangedZones.{as_many, change_within, next_change}
use Rattle.actions.proofs.listing.change_list.Goals as goal

pub entry-requires : goal.entry-requires
entry-requires c =
    let H = c.requires.0 in
    change_within c.args.catalogue.now H (delta H c.args.place) c.as_slice-at-items.result.now c.loop-at.at-index _ c.requires.1
    (ap (map (slice_get (meta H))) c.as_slice-at-items.ensures ∙ c.in_ok-changed.ensures.entries H c.requires.1)
    (slice_get-get_or c.as_slice-at-items.result.now c.loop-at.at-index 0 c.loop-at-test.true)

pub loop-at-preserved : goal.loop-at-preserved
loop-at-preserved c =
    λ H stands.
    subst (λ (zones : List ListZone). IsListBegun [] (token_of H (length H)) zones c.zone.new.self)
    (next_change (meta H) (delta H c.args.place) c.as_slice-at-items.result.now c.loop-at.at-index _ _ _
    (ap (map (slice_get (meta H))) c.as_slice-at-items.ensures ∙ c.in_ok-changed.ensures.entries H stands)
    (slice_get-get_or c.as_slice-at-items.result.now c.loop-at.at-index 0 c.loop-at-test.true)
    (c.entry.ensures.entry H stands) c.texts_of.ensures)
    (c.in_ok-zone.ensures [] (token_of H (length H)) _ (c.loop-at.invariant H stands))

pub returns : goal.returns
unfolding change_list
returns c =
    λ H stands.
    let many = as_many (meta H) c.in_ok-changed.changed (delta H c.args.place) (c.in_ok-changed.ensures.entries H stands) in
    let same = ap length c.as_slice-at-items.ensures in
    let all : length (delta H c.args.place) ≤ c.loop-at.at-index = omega (arith, many, same, c.loop-at-test.false) in
    subst (λ (zones : List ListZone). IfOk c.end.result (λ text. text ≡ list_document (token_of H (length H)) zones))
    (ap (map list_zone) (take_all _ (delta H c.args.place) all))
    (c.end.ensures [] (token_of H (length H)) _ (c.loop-at.invariant H stands))
