use Rattle.std.proofs.Common.{◌≡◌, [], subst, IfOk}
use Rattle.std.proofs.lemmas.List.{take_all}
use Rattle.json_forms.specs.Begun.{IsListBegun}
use Rattle.json_forms.specs.ListDocument.{list_document}
use Rattle.json_forms.specs.PlainTexts.{IsPlainZone}
use Rattle.json_forms.proofs.lemmas.ListSteps.{take_next, all_next}
use Rattle.json_forms.proofs.list_writer.list_of.Goals as goal

pub loop-zone-preserved : goal.loop-zone-preserved
loop-zone-preserved c = record {
  begun =
      subst (λ zones. IsListBegun [] c.args.token.now zones c.zone.new.self)
      (take_next c.args.zones.now c.loop-zone.zone-index c.zone-item.result _ c.loop-zone-test.true c.zone-item.is c.texts.ensures)
      (c.in_ok-zone.ensures [] c.args.token.now _ c.loop-zone.invariant.begun);
  plain = (all_next IsPlainZone c.args.zones.now c.loop-zone.zone-index c.zone-item.result c.loop-zone-test.true c.zone-item.is c.loop-zone.invariant.plain).1;
}

pub returns : goal.returns
returns c =
    subst (λ zones. IfOk c.end.result (λ text. text ≡ list_document c.args.token.now zones))
    (take_all _ c.args.zones.now c.loop-zone-test.false)
    (c.end.ensures [] c.args.token.now _ c.loop-zone.invariant.begun)
