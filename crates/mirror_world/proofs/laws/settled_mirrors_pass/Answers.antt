use Rattle.std.proofs.Common.{List, subst}
use Rattle.td_base.specs.declared.upstream.Exchange.{Exchange}
use Rattle.http_client.specs.Requests.{request_text}
use Rattle.mirror.specs.Understanding.{Means}
use Rattle.zone_meaning.specs.Sound.{IsSound}
use Rattle.sync_world.specs.Worlds.{world_begun}
use Rattle.mirror_world.specs.Answers.{IsAnsweredOver}
use Rattle.mirror_world.specs.Logs.{Logs}
use Rattle.mirror_world.proofs.Held.{first_passes}
use Rattle.mirror_world.proofs.laws.settled_mirrors_pass.Goals as goal

pub returns : goal.returns
returns c = λ host t taken untaken xs more files result k parts ends good has.
    let rest = c.syncs_settle.ensures.takes host t taken untaken xs more result k.empty parts ends good in
    let logs = subst (λ (l : List Exchange). Logs IsSound IsAnsweredOver Means (world_begun k.history) k.steps l k.after) rest.1 k.logs in
    first_passes c.mirrors_hold_releases.ensures c.one_meaning.ensures c.held_releases_pass.ensures.follows t (c.held_releases_pass.ensures.first t)
    (request_text host) taken untaken rest.0 files result k.history k.steps k.after k.is_history k.some logs ends good has
