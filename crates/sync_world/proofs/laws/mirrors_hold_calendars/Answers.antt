use Rattle.sync_world.proofs.Calendars.{calendars_held}
use Rattle.sync_world.proofs.laws.mirrors_hold_calendars.Goals as goal

pub returns : goal.returns
returns c = calendars_held
