use Rattle.std.proofs.Common.{◌++◌, ◌∙◌, List, subst, sym}
use Rattle.json_forms.specs.Begun.{IsListBegun}
use Rattle.json_forms.specs.declared.zone_list.ListZone.{ListZone}
use Rattle.actions.proofs.lemmas.Chosen.{one_shown}
use Rattle.actions.proofs.listing.put_chosen.Goals as goal

pub returns-in_ok-zone : goal.returns-in_ok-zone
returns-in_ok-zone g c =
    λ before token zones begun.
    subst (λ (more : List ListZone). IsListBegun before token (zones ++ more) c.zone.new.self)
    (sym (one_shown (g.C.Choice.shows c.args.choice.now) _ _ (sym c.takes.ensures ∙ c.if-takes.true) c.texts_of.ensures))
    (c.in_ok-zone.ensures before token zones begun)
