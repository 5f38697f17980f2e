use Rattle.std.proofs.Common.{◌∷◌, ◌++◌, length, subst}
use Rattle.http_client.specs.Requests.{request_text}
use Rattle.mirror.specs.Understanding.{Means}
use Rattle.mirror_world.specs.Runs.{SyncsInTurn, all_taken}
use Rattle.sync_core.specs.Mirrors.{empty_mirror}
use Rattle.run_laws.proofs.Serving.{all_served}
use Rattle.run_laws.proofs.Splitting.{back, front}
use Rattle.run_laws.proofs.syncs.another_history_is_served.Goals as goal

pub returns : goal.returns
returns c = λ host first last history follows share stretch rest H steps v k is_history some logs.
    let xs = rest ++ all_taken stretch in
    let all = subst (λ shares. SyncsInTurn (request_text host) Means empty_mirror shares follows.after) k.parts follows.syncs in
    let later = back (request_text host) Means k.before empty_mirror follows.after k.state (share ∷ (stretch ++ k.after)) all k.reaches in
    let syncs = front (request_text host) Means (share ∷ stretch) k.state follows.after k.after later in
    let holds = c.restarted_primaries_are_followed.ensures H steps v host k.state syncs.0 share stretch k.earlier rest is_history some k.again logs syncs.1 in
    all_served c.releases_are_held.ensures v.history (λ n. (c.histories_go_on.ensures H steps xs v n is_history logs).1) (length H) (share ∷ stretch) some holds
