use Rattle.std.proofs.Common.{[], length, List, IfOk, subst, ◌≡◌, ap, arith}
use Rattle.std.proofs.lemmas.List.{take_all}
use Rattle.catalogue.specs.Histories.{meta, token_of}
use Rattle.json_forms.specs.Begun.{IsListBegun}
use Rattle.json_forms.specs.ListDocument.{list_document}
use Rattle.json_forms.specs.declared.zone_list.ListZone.{ListZone}
use Rattle.actions.specs.Listing.{list_body}
use Rattle.actions.proofs.lemmas.Chosen.{shown_zones, next_shown}
use Rattle.actions.proofs.listing.list_body.Goals as goal

pub loop-place-preserved : goal.loop-place-preserved
loop-place-preserved g c =
    λ H stands.
    subst (λ (zones : List ListZone). IsListBegun [] (token_of H (length H)) zones c.put_chosen.new.list)
    (next_shown (g.C.Choice.shows c.args.choice.now) (meta H) c.loop-place.place _ (c.entry.ensures.entry H stands))
    (c.in_ok-put_chosen.ensures [] (token_of H (length H)) _ (c.loop-place.invariant H stands))

pub returns : goal.returns
unfolding list_body
returns g c =
    λ H stands.
    subst (λ (zones : List ListZone). IfOk c.end.result (λ text. text ≡ list_document (token_of H (length H)) zones))
    (ap (shown_zones (g.C.Choice.shows c.args.choice.now)) (take_all _ (meta H) (omega (arith, c.loop-place-test.false, c.len-place-end.ensures.len H stands))))
    (c.end.ensures [] (token_of H (length H)) _ (c.loop-place.invariant H stands))
