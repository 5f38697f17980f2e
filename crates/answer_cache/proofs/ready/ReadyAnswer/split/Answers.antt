use Rattle.std.proofs.Common.{false}
use Rattle.answer_cache.proofs.ReadyLemmas as ready
use Rattle.answer_cache.proofs.ready.ReadyAnswer.split.Goals as goal

pub split_at-requires : goal.split_at-requires
split_at-requires c = rw c.as_slice.ensures (ready.fits _ false _ _ c.self.invariant.is c.self.invariant.begins)

pub returns-clause-head : goal.returns-clause-head
returns-clause-head c =
    rw (← c.self.view_is, c.split_at.ensures.front, c.as_slice.ensures) (ready.head_part _ false _ _ c.self.invariant.is c.self.invariant.begins)

pub returns-clause-body : goal.returns-clause-body
returns-clause-body c =
    rw (← c.self.view_is, c.split_at.ensures.back, c.as_slice.ensures) (ready.body_after _ false _ _ c.self.invariant.is c.self.invariant.begins)
