use Rattle.http_request.proofs.AskLemmas.{gives_feed, gives_take, gives_bad, gives_rest}
use Rattle.http_request.proofs.laws.gives.Goals as goal

pub returns-clause-feed : goal.returns-clause-feed
returns-clause-feed c = gives_feed

pub returns-clause-take : goal.returns-clause-take
returns-clause-take c = gives_take

pub returns-clause-bad : goal.returns-clause-bad
returns-clause-bad c = gives_bad

pub returns-clause-rest : goal.returns-clause-rest
returns-clause-rest c = gives_rest
