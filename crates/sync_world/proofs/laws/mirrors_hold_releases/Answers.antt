use Rattle.negotiate.specs.declared.choosing.Format.TheVariants.{Tzif}
use Rattle.zone_meaning.specs.Sound.{IsSound}
use Rattle.sync_world.specs.Hearing.{IsHeardOver, action_service}
use Rattle.sync_world.proofs.Law.{law}
use Rattle.sync_world.proofs.Telling.{tells_so}
use Rattle.sync_world.proofs.Tokens.{finds, finds_no_other}
use Rattle.sync_world.proofs.laws.mirrors_hold_releases.Goals as goal

pub returns : goal.returns
returns c = law action_service IsSound IsHeardOver (tells_so Tzif) finds finds_no_other
