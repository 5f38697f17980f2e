use Rattle.zone_meaning.proofs.lemmas.Types.{kept_types, kept_end}
use Rattle.zone_meaning.proofs.agreement.footer_agrees.Goals as goal

pub last_goes_on-requires-clause-types : goal.last_goes_on-requires-clause-types
last_goes_on-requires-clause-types c = kept_types _ _ _ c.lists_of_parts.ensures

pub last_goes_on-requires-clause-ends : goal.last_goes_on-requires-clause-ends
last_goes_on-requires-clause-ends c = kept_end _ _ _ c.lists_of_parts.ensures
