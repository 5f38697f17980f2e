use Rattle.http_client.specs.Requests.{request_text}
use Rattle.mirror_world.proofs.Held.{all_understood}
use Rattle.mirror_world.proofs.laws.syncs_are_understood.Goals as goal

pub returns : goal.returns
returns c = λ H steps w host.
    all_understood c.mirrors_hold_releases.ensures c.requests_are_answered.ensures c.one_meaning.ensures (request_text host) H steps w
