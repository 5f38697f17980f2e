use Rattle.release_laws.proofs.SameHistories.{same_chains, same_tokens}
use Rattle.release_laws.proofs.histories.tokens_name_histories.Goals as goal

pub returns-clause-chains : goal.returns-clause-chains
returns-clause-chains c = same_chains

pub returns-clause-tokens : goal.returns-clause-tokens
returns-clause-tokens c = same_tokens c.tokens_are_apart.ensures
