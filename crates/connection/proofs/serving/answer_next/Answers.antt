use Rattle.std.proofs.Common.{refl}
use Rattle.std.proofs.lemmas.Result.{err_from_is_err_and}
use Rattle.connection.proofs.ComputingLemmas as computing
use Rattle.connection.proofs.EnteringLemmas as entering
use Rattle.connection.proofs.ServingLemmas as serving
use Rattle.connection.proofs.serving.answer_next.Goals as goal

pub returns-in_err-head-clause-served : goal.returns-in_err-head-clause-served
returns-in_err-head-clause-served g c = λ before s.
    let p = err_from_is_err_and c.from_residual.result c.from_residual.ensures.1 in
    rw p.1 (serving.no_memory _ _ _ _ _ _ _ s _ _ c.in_err-head.ensures.hears)

pub returns-in-Request-clause-served : goal.returns-in-Request-clause-served
returns-in-Request-clause-served g c = λ before s.
    serving.answered _ _ _ _ _ _ _ _ _ _ _ _ s (serving.heard _ _ _ _ _ _ c.in-Request.is c.in_ok-head.ensures.hears) _ c.answer_one.ensures.answers

pub returns-in-Request-clause-enters : goal.returns-in-Request-clause-enters
returns-in-Request-clause-enters g c = λ before e. entering.answered _ _ _ _ _ _ _ _ _ e _ c.answer_one.ensures.answers

pub returns-in-Refused-clause-served : goal.returns-in-Refused-clause-served
returns-in-Refused-clause-served g c = λ before s.
    serving.refused _ _ _ _ _ _ _ s _ _ _ _ (serving.heard _ _ _ _ _ _ c.in-Refused.is c.in_ok-head.ensures.hears) c.refuse.ensures

pub returns-in-Ended-clause-served : goal.returns-in-Ended-clause-served
returns-in-Ended-clause-served g c = λ before s.
    serving.closed_by_input _ _ _ _ _ _ _ s _ (serving.heard _ _ _ _ _ _ c.in-Ended.is c.in_ok-head.ensures.hears)

pub returns-in-ReadFault-clause-served : goal.returns-in-ReadFault-clause-served
returns-in-ReadFault-clause-served g c = λ before s.
    serving.read_failed _ _ _ _ _ _ _ s _ (serving.heard _ _ _ _ _ _ c.in-ReadFault.is c.in_ok-head.ensures.hears)

pub returns-in_err-head-clause-first : goal.returns-in_err-head-clause-first
returns-in_err-head-clause-first g c = computing.none_added _ _ _ _ refl

pub returns-in-Refused-clause-first : goal.returns-in-Refused-clause-first
returns-in-Refused-clause-first g c = computing.none_added _ _ _ _ refl

pub returns-in-Ended-clause-first : goal.returns-in-Ended-clause-first
returns-in-Ended-clause-first g c = computing.none_added _ _ _ _ refl

pub returns-in-ReadFault-clause-first : goal.returns-in-ReadFault-clause-first
returns-in-ReadFault-clause-first g c = computing.none_added _ _ _ _ refl
