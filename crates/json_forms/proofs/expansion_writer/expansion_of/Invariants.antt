use Rattle.std.proofs.Common.{[], take, drop}
use Rattle.std.specs.List.{AllByRecursion}
use Rattle.json_forms.specs.Begun.{IsExpansionBegun}
use Rattle.json_forms.specs.PlainTexts.{IsPlainObservance}
use Rattle.json_forms.proofs.expansion_writer.expansion_of.Given as goal

abbrev pub invariant-loop-observance : goal.invariant-loop-observance
invariant-loop-observance l = record {
  begun : IsExpansionBegun [] l.fn.until.seconds (take l.observance-index l.observances) l.expansion;
  plain : AllByRecursion IsPlainObservance (drop l.observance-index l.observances);
}
