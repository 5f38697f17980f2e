use Rattle.td_civil.specs.SameLocal.{same_local}
use Rattle.td_civil.proofs.local_time.Local.is_same.Goals as goal

pub returns-clause-exact : goal.returns-clause-exact
unfolding same_local
returns-clause-exact c = c.eq.ensures
