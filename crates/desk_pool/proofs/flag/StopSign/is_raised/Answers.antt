use Rattle.std.proofs.Common.{ap, sym, ◌∙◌, arith}
use Rattle.desk_pool.proofs.StepLemmas.{looks}
use Rattle.desk_pool.proofs.flag.StopSign.is_raised.Goals as goal

pub load-requires : goal.load-requires
load-requires c =
    let table = ap (λ t. t.shared.table_id) c.deref-table.ensures in
    (c.self.invariant.seated ∙ sym table, omega (arith, ap (λ z. z.words) table, c.self.invariant.sized), looks _ _ _ _ c.self.invariant.knows)
