use Rattle.std.proofs.Common.{◌++◌, length}
use Rattle.http_client.specs.Requests.{request_text}
use Rattle.mirror.specs.Understanding.{Means}
use Rattle.mirror.proofs.lemmas.Meanings.{answers}
use Rattle.sync_world.specs.Hearing.{action_service}
use Rattle.mirror_world.specs.Answers.{IsAnsweredOver}
use Rattle.mirror_world.specs.Runs.{all_taken}
use Rattle.sync_laws.proofs.Restarting.{stretch_holds}
use Rattle.sync_laws.proofs.restarts.restarted_primaries_are_followed.Goals as goal

pub returns : goal.returns
returns c = λ H steps v host s t share shares first rest history some again logs syncs.
    let longer = c.histories_go_on.ensures H steps (rest ++ all_taken shares) v 0 history logs in
    let follows = c.mirrors_follow.ensures H steps (rest ++ all_taken shares) v history some logs in
    stretch_holds (request_text host) IsAnsweredOver Means c.one_meaning.ensures answers action_service v.history (length H) again.lists s again.state t
    v.mirror first rest share shares longer.0 again.parts again.walks again.asks follows syncs
