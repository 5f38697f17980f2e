use Rattle.std.proofs.Common.{false, ap, arith, length}
use Rattle.answer_cache.proofs.ReadyLemmas as ready
use Rattle.answer_cache.proofs.ready.ReadyAnswer.lines.Goals as goal

pub split_at-requires : goal.split_at-requires
split_at-requires c =
    let fits = ready.fits _ false _ _ c.self.invariant.is c.self.invariant.begins in
    omega (arith, fits, ap length c.as_slice.ensures)

pub returns : goal.returns
returns c =
    rw (← c.self.view_is, c.split_at.ensures.front, c.as_slice.ensures)
    (ready.lines_before _ false _ _ c.self.invariant.is c.self.invariant.begins)
