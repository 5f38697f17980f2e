use Rattle.vtimezone.proofs.lemmas.ZoneRange.{zone_parts_mean}
use Rattle.vtimezone.proofs.laws.parts_mean.Goals as goal

pub returns : goal.returns
returns c = zone_parts_mean
