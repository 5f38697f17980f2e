use Rattle.std.proofs.Common.{refl}
use Rattle.connection.proofs.ComputingLemmas as computing
use Rattle.connection.proofs.EnteringLemmas as entering
use Rattle.connection.proofs.ServingLemmas as serving
use Rattle.connection.proofs.serving.serve_over.Goals as goal

pub returns-clause-later : goal.returns-clause-later
returns-clause-later g c = serving.counts_later _ _ _ _ _ _ c.serve_requests-end.ensures.served

pub returns-clause-pair : goal.returns-clause-pair
returns-clause-pair g c = (entering.goes_on _ _ _ c.serve_requests-end.result c.serve_requests-end.ensures.enters).pair

pub returns-clause-seen : goal.returns-clause-seen
returns-clause-seen g c = (entering.goes_on _ _ _ c.serve_requests-end.result c.serve_requests-end.ensures.enters).longer

pub returns-clause-first : goal.returns-clause-first
returns-clause-first g c = entering.first _ _ _ c.serve_requests-end.result c.serve_requests-end.ensures.enters

pub returns-clause-counted : goal.returns-clause-counted
returns-clause-counted g c = entering.counted _ _ _ c.serve_requests-end.result c.serve_requests-end.ensures.enters

pub returns-clause-ended : goal.returns-clause-ended
returns-clause-ended g c =
    λ over. (
      ((entering.goes_on _ _ _ c.serve_requests-end.result c.serve_requests-end.ensures.enters).ended over).0,
      ((entering.goes_on _ _ _ c.serve_requests-end.result c.serve_requests-end.ensures.enters).ended over).1,
      entering.at_end _ _ _ c.serve_requests-end.result c.serve_requests-end.ensures.enters over,
    )

pub returns-clause-first_computed : goal.returns-clause-first_computed
returns-clause-first_computed g c = λ empty some.
    computing.from_none _ _ _ _ c.new-places.ensures refl c.serve_requests-end.ensures.first empty some
