use Rattle.vtimezone.proofs.Spellable.{zone_spelled}
use Rattle.vtimezone.proofs.laws.zone_calendar_spells.Goals as goal

pub returns : goal.returns
returns c = zone_spelled
