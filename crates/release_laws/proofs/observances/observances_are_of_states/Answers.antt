use Rattle.release_laws.proofs.Stated.{are_of_states, one_of_states}
use Rattle.release_laws.proofs.observances.observances_are_of_states.Goals as goal

pub returns-clause-are : goal.returns-clause-are
returns-clause-are c = are_of_states

pub returns-clause-one : goal.returns-clause-one
returns-clause-one c = one_of_states c.observances_are_the_changes.ensures.one
