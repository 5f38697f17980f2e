use Rattle.calendar_world.proofs.Sound.{answer_is}
use Rattle.calendar_world.proofs.laws.calendars_are_read.Goals as goal

pub returns : goal.returns
returns c = answer_is c.calendars_fit.ensures c.zone_is_read.ensures c.zone_is_told.ensures c.calendars_are_heard.ensures
