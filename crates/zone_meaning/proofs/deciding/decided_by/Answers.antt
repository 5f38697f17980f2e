use Rattle.zone_meaning.proofs.lemmas.Types.{kept_end, kept_types}
use Rattle.zone_meaning.proofs.Decided.{decided_zones, kept_lawful}
use Rattle.zone_meaning.proofs.deciding.decided_by.Goals as goal

pub decided_by_lists-requires-clause-types : goal.decided_by_lists-requires-clause-types
decided_by_lists-requires-clause-types c = kept_types _ _ _ c.lists_of_parts.ensures

pub decided_by_lists-requires-clause-ends : goal.decided_by_lists-requires-clause-ends
decided_by_lists-requires-clause-ends c = kept_end _ _ _ c.lists_of_parts.ensures

pub decided_by_lists-requires-clause-other_types : goal.decided_by_lists-requires-clause-other_types
decided_by_lists-requires-clause-other_types c = kept_types _ _ _ c.lists_of_parts-2.ensures

pub decided_by_lists-requires-clause-other_ends : goal.decided_by_lists-requires-clause-other_ends
decided_by_lists-requires-clause-other_ends c = kept_end _ _ _ c.lists_of_parts-2.ensures

pub decided_by_lists-requires-clause-lawful : goal.decided_by_lists-requires-clause-lawful
decided_by_lists-requires-clause-lawful c = kept_lawful _ _ _ c.lists_of_parts.ensures

pub decided_by_lists-requires-clause-other_lawful : goal.decided_by_lists-requires-clause-other_lawful
decided_by_lists-requires-clause-other_lawful c = kept_lawful _ _ _ c.lists_of_parts-2.ensures

pub returns-clause-decided : goal.returns-clause-decided
returns-clause-decided c =
    rw (← c.parts_of-one.ensures.file, ← c.parts_of-two.ensures.file)
    (decided_zones c.parts_of-one.result.now.file c.parts_of-two.result.now.file c.lists_of_parts.result c.lists_of_parts-2.result c.parts_of-one.result.now.footer c.parts_of-two.result.now.footer
    c.decided_by_lists.result.seconds c.lists_of_parts.ensures c.lists_of_parts-2.ensures c.decided_by_lists.ensures.decided)
