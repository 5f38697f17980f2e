use Rattle.release_laws.proofs.SameBytes.{same_links}
use Rattle.release_laws.proofs.covering.tokens_cover.Goals as goal

pub returns : goal.returns
returns c = same_links
