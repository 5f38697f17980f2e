use Rattle.http_client.specs.Requests.{request_text}
use Rattle.mirror.specs.Understanding.{Means}
use Rattle.sync_world.specs.Hearing.{action_service}
use Rattle.mirror_world.specs.Answers.{IsAnsweredOver}
use Rattle.mirror_world.proofs.lemmas.Syncing.{share_holds}
use Rattle.mirror_world.proofs.laws.syncs_hold.Goals as goal

pub returns : goal.returns
returns c = λ G least host. share_holds (request_text host) IsAnsweredOver Means c.one_meaning.ensures action_service G least
