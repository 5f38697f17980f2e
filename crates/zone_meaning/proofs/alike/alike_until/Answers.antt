use Rattle.zone_meaning.proofs.AlikeBefore.{alike_zones}
use Rattle.zone_meaning.proofs.lemmas.Types.{kept_types}
use Rattle.zone_meaning.proofs.alike.alike_until.Goals as goal

pub alike_until_lists-requires-clause-types : goal.alike_until_lists-requires-clause-types
alike_until_lists-requires-clause-types c = kept_types _ _ _ c.lists_of_parts.ensures

pub alike_until_lists-requires-clause-other_types : goal.alike_until_lists-requires-clause-other_types
alike_until_lists-requires-clause-other_types c = kept_types _ _ _ c.lists_of_parts-2.ensures

pub returns : goal.returns
returns c =
    rw (← c.parts_of-one.ensures.file, ← c.parts_of-two.ensures.file)
    (alike_zones c.parts_of-one.result.now.file c.parts_of-two.result.now.file c.lists_of_parts.result c.lists_of_parts-2.result c.parts_of-one.result.now.footer c.parts_of-two.result.now.footer
    c.alike_until_lists.result.seconds c.lists_of_parts.ensures c.lists_of_parts-2.ensures c.alike_until_lists.ensures)
