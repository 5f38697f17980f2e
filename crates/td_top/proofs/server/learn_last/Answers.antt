use Rattle.std.proofs.Common.{rules}
use Rattle.td_top.proofs.server.learn_last.Goals as goal

pub returns-clause-seen : goal.returns-clause-seen
returns-clause-seen g c = search rules
