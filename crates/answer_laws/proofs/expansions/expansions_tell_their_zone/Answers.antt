use Rattle.answer_laws.proofs.Expanded.{tells_the_expansion}
use Rattle.answer_laws.proofs.expansions.expansions_tell_their_zone.Goals as goal

pub returns : goal.returns
returns c =
    tells_the_expansion c.expansion_reads_back.ensures c.observances_are_of_states.ensures.are c.last_observance_tells_the_state.ensures.some
    c.last_observance_tells_the_state.ensures.tells
