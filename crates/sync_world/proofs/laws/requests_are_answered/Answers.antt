use Rattle.negotiate.specs.declared.choosing.Format.TheVariants.{Tzif}
use Rattle.sync_world.proofs.Requests.{requested}
use Rattle.sync_world.proofs.laws.requests_are_answered.Goals as goal

pub returns : goal.returns
returns c = requested Tzif
