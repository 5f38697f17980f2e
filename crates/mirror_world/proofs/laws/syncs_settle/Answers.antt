use Rattle.http_client.specs.Requests.{request_text}
use Rattle.mirror.specs.Understanding.{Means}
use Rattle.mirror_world.proofs.lemmas.Settling.{is_settled, took_first}
use Rattle.mirror_world.proofs.laws.syncs_settle.Goals as goal

pub returns-clause-ends : goal.returns-clause-ends
returns-clause-ends c = λ host t taken untaken xs more result k parts ends.
    is_settled (request_text host) Means c.one_meaning.ensures xs more t taken untaken result k parts ends

pub returns-clause-takes : goal.returns-clause-takes
returns-clause-takes c = λ host t taken untaken xs more result k parts ends good.
    took_first (request_text host) Means c.one_meaning.ensures xs more t taken untaken result k parts ends good
