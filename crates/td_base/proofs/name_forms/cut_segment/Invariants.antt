use Rattle.std.proofs.Common.{◌≡◌, take, drop}
use Rattle.td_base.specs.Names.{segments}
use Rattle.td_base.proofs.NameCutLemmas.{with_prefix}
use Rattle.td_base.proofs.name_forms.cut_segment.Given as goal

abbrev pub invariant-loop-at : goal.invariant-loop-at
invariant-loop-at l = segments l.text ≡ with_prefix (take l.at l.text) (segments (drop l.at l.text))
