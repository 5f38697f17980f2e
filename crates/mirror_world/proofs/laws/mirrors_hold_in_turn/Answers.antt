use Rattle.http_client.specs.Requests.{request_text}
use Rattle.mirror_world.proofs.Held.{hold_in_turn}
use Rattle.mirror_world.proofs.laws.mirrors_hold_in_turn.Goals as goal

pub returns : goal.returns
returns c = λ H steps v host. hold_in_turn c.mirrors_hold_releases.ensures c.one_meaning.ensures (request_text host) H steps v
