use Rattle.negotiate.specs.declared.choosing.Format.TheVariants.{Tzif}
use Rattle.sync_world.proofs.Telling.{tells_so}
use Rattle.sync_world.proofs.Tokens.{finds, finds_no_other}
use Rattle.sync_world.proofs.laws.actions_serve.Goals as goal

pub returns : goal.returns
returns c = record { heard_is_told = tells_so Tzif; finds = finds; finds_no_other = finds_no_other }
