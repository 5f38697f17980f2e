use Rattle.std.proofs.Common.{refl, arith, ◌∙◌}
use Rattle.connection.proofs.KeepingLemmas as keeping
use Rattle.connection.proofs.RoundLemmas as rounds
use Rattle.connection.proofs.door_work.serve_door.Goals as goal

pub rounds-init : goal.rounds-init
rounds-init g c = record {
  served = rounds.starts _ _ _;
  flag = refl;
  rose = rounds.rose_none _;
  few = omega arith;
  kept = keeping.none _ _ _ c.new-kept.ensures;
}

pub serve_next-requires-clause-door : goal.serve_next-requires-clause-door
serve_next-requires-clause-door g c = rounds.still_none_out _ _ _ _ _ c.requires.door c.rounds.invariant.served

pub rounds-preserved-in-GoesOn : goal.rounds-preserved-in-GoesOn
rounds-preserved-in-GoesOn g c = record {
  served = rounds.goes_on _ _ _ _ _ _ _ c.rounds.invariant.served c.serve_next.ensures.serves.served;
  flag = c.serve_next.ensures.serves.flag ∙ c.rounds.invariant.flag;
  rose = rounds.rose_same _ _ _ _ c.rounds.invariant.rose c.in-GoesOn.ensures.serves.tells.1;
  few = c.rounds.invariant.few;
  kept = c.serve_next.ensures.kept;
}

pub returns-then-failures-eq-MOST_FAILURES : goal.returns-then-failures-eq-MOST_FAILURES
returns-then-failures-eq-MOST_FAILURES g c =
    rounds.worn _ _ _ _ _ _ _ _ _ _ c.rounds.failures c.rounds.invariant.served c.rounds.invariant.flag c.rounds.invariant.rose
    c.if-failures-eq-MOST_FAILURES.true c.in-Failed.ensures.serves

pub rounds-preserved : goal.rounds-preserved
rounds-preserved g c = record {
  served = rounds.goes_on _ _ _ _ _ _ _ c.rounds.invariant.served c.serve_next.ensures.serves.served;
  flag = c.serve_next.ensures.serves.flag ∙ c.rounds.invariant.flag;
  rose = rounds.rose_more _ _ _ _ c.rounds.invariant.rose c.in-Failed.ensures.serves.tells.1;
  few = omega (arith, c.rounds.invariant.few, c.if-failures-eq-MOST_FAILURES.false);
  kept = c.serve_next.ensures.kept;
}

pub returns-in-Ended : goal.returns-in-Ended
returns-in-Ended g c =
    rounds.last _ _ _ _ _ _ _ _ _ _ _ c.rounds.invariant.served c.rounds.invariant.flag c.rounds.invariant.rose c.serve_next.result
    c.rounds.invariant.few c.serve_next.ensures.serves c.in-Ended.is
