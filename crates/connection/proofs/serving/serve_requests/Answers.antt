use Rattle.connection.proofs.EnteringLemmas as entering
use Rattle.connection.proofs.ServingLemmas as serving
use Rattle.connection.proofs.serving.serve_requests.Goals as goal

pub returns-in-Ok-clause-enters : goal.returns-in-Ok-clause-enters
returns-in-Ok-clause-enters g c = entering.for_each _ _ _ c.in-Ok.end c.in-Ok.ensures.enters

pub returns-in-Err-clause-served : goal.returns-in-Err-clause-served
returns-in-Err-clause-served g c = serving.gave_up _ _ _ _ _ _ c.in-Err.ensures.served c.give_up.ensures
