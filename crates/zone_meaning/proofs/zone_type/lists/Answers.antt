use Rattle.zone_meaning.proofs.lemmas.Types.{kept_types}
use Rattle.zone_meaning.proofs.zone_type.lists.Goals as goal

pub returns-clause-types : goal.returns-clause-types
returns-clause-types c = kept_types _ _ _ c.lists_of_parts.ensures
