use Rattle.http_request.proofs.AskLemmas.{prefix}
use Rattle.http_request.proofs.laws.prefixes.Goals as goal

pub returns : goal.returns
returns c = prefix
