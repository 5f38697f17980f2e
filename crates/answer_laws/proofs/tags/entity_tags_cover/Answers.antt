use Rattle.answer_laws.proofs.TagParts.{same_tags}
use Rattle.answer_laws.proofs.tags.entity_tags_cover.Goals as goal

pub returns : goal.returns
returns c = same_tags
