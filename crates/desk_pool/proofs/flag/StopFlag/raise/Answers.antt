use Rattle.std.proofs.Common.{ap, sym, ◌∙◌, arith}
use Rattle.desk_pool.proofs.StepLemmas.{raises}
use Rattle.desk_pool.proofs.flag.StopFlag.raise.Goals as goal

pub store-requires : goal.store-requires
store-requires c =
    let table = ap (λ t. t.shared.table_id) c.deref-table.ensures in
    (c.self.invariant.seated ∙ sym table, omega (arith, ap (λ z. z.words) table, c.self.invariant.sized), raises _ _ _ _ c.self.invariant.knows)
