use Rattle.td_civil.proofs.lemmas.SameStates.{same_local_is, same_local_of}
use Rattle.td_civil.proofs.laws.same_states.Goals as goal

pub returns : goal.returns
returns c x y = (same_local_is x y, same_local_of x y)
