use Rattle.std.proofs.Common.{arith}
use Rattle.td_top.proofs.LineLemmas.{few_zones}
use Rattle.td_top.proofs.operator.serving.Goals as goal

pub overflow_cast-result : goal.overflow_cast-result
overflow_cast-result c = omega (arith, few_zones c.args.catalogue.now c.requires, c.len.ensures.zones)
