use Rattle.release_laws.proofs.SameBytes.{same_contents}
use Rattle.release_laws.proofs.covering.tags_cover.Goals as goal

pub returns : goal.returns
returns c = same_contents
