use Rattle.std.specs.List.{Contains}
use Rattle.vtimezone.proofs.InForce.{one_in_force}
use Rattle.vtimezone.proofs.laws.one_in_force.Goals as goal

pub returns : goal.returns
returns c = λ parts t p q. one_in_force (Contains parts) t p q
