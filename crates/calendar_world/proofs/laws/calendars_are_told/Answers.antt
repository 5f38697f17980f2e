use Rattle.calendar_world.proofs.Kept.{calendar_kept}
use Rattle.calendar_world.proofs.laws.calendars_are_told.Goals as goal

pub returns : goal.returns
returns c = calendar_kept c.calendars_fit.ensures c.zone_is_read.ensures c.zone_is_told.ensures
