use Rattle.connection.proofs.KeepingLemmas as keeping
use Rattle.connection.proofs.serving.serve.Goals as goal

pub serve_over-requires-clause-kept : goal.serve_over-requires-clause-kept
serve_over-requires-clause-kept g c = keeping.none _ _ _ c.new-kept.ensures

pub returns-clause-first_computed : goal.returns-clause-first_computed
returns-clause-first_computed g c = λ some. c.serve_over.ensures.first_computed (c.new-kept.ensures.many, c.new-kept.ensures.large) some
