use Rattle.sync_laws.proofs.LastChanges.{states_last_change}
use Rattle.sync_laws.proofs.releases.held_releases_state_their_last_change.Goals as goal

pub returns : goal.returns
returns c = λ P G s history some holds. states_last_change P G s history holds some
