use Rattle.std.proofs.Common.{subst}
use Rattle.http_client.specs.Requests.{request_text}
use Rattle.mirror.specs.Understanding.{Means}
use Rattle.mirror_world.specs.Runs.{SyncsInTurn}
use Rattle.sync_core.specs.Mirrors.{empty_mirror}
use Rattle.run_laws.proofs.Splitting.{comes_to}
use Rattle.run_laws.proofs.syncs.runs_understand_their_primary.Goals as goal

pub returns : goal.returns
returns c = λ host first last history follows before share after H steps w parts is_history some logs answered.
    let syncs = subst (λ shares. SyncsInTurn (request_text host) Means empty_mirror shares follows.after) parts follows.syncs in
    let at = comes_to (request_text host) Means before empty_mirror follows.after share after syncs in
    c.answered_syncs_are_understood.ensures.files H steps w host before at.state share.after share.taken share.untaken share.result is_history some logs
    at.syncs at.ends answered
