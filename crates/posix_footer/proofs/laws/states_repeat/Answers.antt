use Rattle.posix_footer.proofs.lemmas.Repeating.{onset_again, state_again}
use Rattle.posix_footer.proofs.laws.states_repeat.Goals as goal

pub returns-clause-onsets : goal.returns-clause-onsets
returns-clause-onsets c = onset_again

pub returns-clause-states : goal.returns-clause-states
returns-clause-states c = state_again
