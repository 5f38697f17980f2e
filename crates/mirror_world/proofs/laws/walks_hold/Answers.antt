use Rattle.http_client.specs.Requests.{request_text}
use Rattle.mirror_world.proofs.Held.{walk_settles}
use Rattle.mirror_world.proofs.laws.walks_hold.Goals as goal

pub returns : goal.returns
returns c = λ H steps v host. walk_settles c.mirrors_hold_releases.ensures c.one_meaning.ensures (request_text host) H steps v
