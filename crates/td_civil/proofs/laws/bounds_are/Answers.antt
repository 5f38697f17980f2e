use Rattle.td_civil.proofs.Bounds.{lo_spelled, hi_spelled}
use Rattle.td_civil.proofs.laws.bounds_are.Goals as goal

pub returns-clause-lo : goal.returns-clause-lo
returns-clause-lo c = lo_spelled

pub returns-clause-hi : goal.returns-clause-hi
returns-clause-hi c = hi_spelled
