use Rattle.std.proofs.Common.{ap, sym, ◌∙◌, arith}
use Rattle.desk_pool.proofs.StepLemmas.{forks}
use Rattle.desk_pool.proofs.flag.StopFlag.share.Goals as goal

pub split_seat-seat-requires : goal.split_seat-seat-requires
split_seat-seat-requires c =
    let table = ap (λ t. t.shared.table_id) (c.deref-table.ensures ∙ c.in_ok-board.ensures) in
    (c.self.invariant.seated ∙ sym table, omega (arith, ap (λ z. z.words) table, c.self.invariant.sized), forks _ _)
