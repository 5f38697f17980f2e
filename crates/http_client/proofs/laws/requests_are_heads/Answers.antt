use Rattle.http_client.proofs.Heads.{sent_head}
use Rattle.http_client.proofs.laws.requests_are_heads.Goals as goal

pub returns : goal.returns
returns c = sent_head
