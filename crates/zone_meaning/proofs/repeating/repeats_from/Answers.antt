use Rattle.zone_meaning.proofs.lemmas.Types.{kept_end, kept_types}
use Rattle.zone_meaning.proofs.Decided.{kept_lawful}
use Rattle.zone_meaning.proofs.LateStates.{zone_again}
use Rattle.zone_meaning.proofs.repeating.repeats_from.Goals as goal

pub last_turn-requires-clause-types : goal.last_turn-requires-clause-types
last_turn-requires-clause-types c = kept_types _ _ _ c.lists_of_parts.ensures

pub last_turn-requires-clause-ends : goal.last_turn-requires-clause-ends
last_turn-requires-clause-ends c = kept_end _ _ _ c.lists_of_parts.ensures

pub returns-clause-repeats : goal.returns-clause-repeats
returns-clause-repeats c =
    rw (← c.parts_of.ensures.file)
    (zone_again c.parts_of.result.now.file c.lists_of_parts.result c.parts_of.result.now.footer c.last_turn.result.seconds c.lists_of_parts.ensures
    c.last_turn.ensures.meaning c.last_turn.ensures.begun)
