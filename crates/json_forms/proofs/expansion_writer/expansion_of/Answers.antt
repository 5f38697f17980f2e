use Rattle.std.proofs.Common.{◌≡◌, [], ◌∙◌, subst, IfOk}
use Rattle.std.proofs.lemmas.List.{take_all}
use Rattle.json_forms.specs.Begun.{IsExpansionBegun}
use Rattle.json_forms.specs.ExpansionDocument.{expansion_document}
use Rattle.json_forms.specs.PlainTexts.{IsPlainObservance}
use Rattle.json_forms.proofs.lemmas.ListSteps.{take_next, all_next}
use Rattle.json_forms.proofs.expansion_writer.expansion_of.Goals as goal

pub loop-observance-preserved : goal.loop-observance-preserved
loop-observance-preserved c = record {
  begun =
      subst (λ observances. IsExpansionBegun [] c.args.until.seconds observances c.write.new.self)
      (take_next c.args.observances.now c.loop-observance.observance-index c.observance-item.result _ c.loop-observance-test.true c.observance-item.is (c.new-in-loop-observance.ensures ∙ c.copy.ensures))
      (c.in_ok-write.ensures [] c.args.until.seconds _ c.loop-observance.invariant.begun);
  plain =
      (all_next IsPlainObservance c.args.observances.now c.loop-observance.observance-index c.observance-item.result
      c.loop-observance-test.true c.observance-item.is c.loop-observance.invariant.plain).1;
}

pub returns : goal.returns
returns c =
    subst (λ observances. IfOk c.end.result (λ text. text ≡ expansion_document c.args.tzid.now c.args.from.seconds c.args.until.seconds observances))
    (take_all _ c.args.observances.now c.loop-observance-test.false)
    (c.end.ensures [] c.args.until.seconds _ c.loop-observance.invariant.begun)
