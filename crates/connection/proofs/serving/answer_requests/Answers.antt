use Rattle.std.proofs.Common.{refl, arith, inl}
use Rattle.connection.proofs.ComputingLemmas as computing
use Rattle.connection.proofs.ServingLemmas as serving
use Rattle.connection.proofs.serving.answer_requests.Goals as goal

pub requests-init : goal.requests-init
requests-init g c =
    rw (c.requires.none, c.new-heads.ensures) (record {
      serving = serving.starts _ _ _;
      enters = refl;
      held = omega arith;
      kept = c.requires.kept;
      computed = record { later = omega arith; few = omega arith };
      begun = inl (refl, refl);
    })

pub returns-in-Some-clause-served : goal.returns-in-Some-clause-served
returns-in-Some-clause-served g c =
    serving.ended _ _ _ _ _ _ _ _ c.in-Some.is (c.in_ok-more.ensures.served _ c.requests.invariant.serving)

pub returns-in-Some-clause-first : goal.returns-in-Some-clause-first
returns-in-Some-clause-first g c =
    computing.at_last _ _ _ _ _ _ c.requests.invariant.begun c.answer_next.ensures.first c.answer_next.ensures.computed.later
