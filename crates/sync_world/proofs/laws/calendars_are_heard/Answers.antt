use Rattle.negotiate.specs.declared.choosing.Format.TheVariants.{Calendar}
use Rattle.sync_world.proofs.Requests.{heard_exactly}
use Rattle.sync_world.proofs.laws.calendars_are_heard.Goals as goal

pub returns : goal.returns
returns c = heard_exactly Calendar
