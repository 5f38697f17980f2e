use Rattle.std.proofs.Common.{[], take, drop}
use Rattle.std.specs.List.{AllByRecursion}
use Rattle.json_forms.specs.Begun.{IsListBegun}
use Rattle.json_forms.specs.PlainTexts.{IsPlainZone}
use Rattle.json_forms.proofs.list_writer.list_of.Given as goal

abbrev pub invariant-loop-zone : goal.invariant-loop-zone
invariant-loop-zone l = record {
  begun : IsListBegun [] l.fn.token (take l.zone-index l.zones) l.list;
  plain : AllByRecursion IsPlainZone (drop l.zone-index l.zones);
}
