use Rattle.vtimezone.proofs.Spellable.{some_parts, parts_spellable, end_within}
use Rattle.vtimezone.proofs.laws.zone_parts_are_spellable.Goals as goal

pub returns : goal.returns
returns c = λ file range fault names carried meaning end.
    (some_parts file range, (parts_spellable file range fault names carried meaning end, end_within range meaning end))
