use Rattle.std.proofs.Common.{refl}
use Rattle.answer_cache.proofs.cache.AnswerCache.promote.Goals as goal

pub returns-clause-kept : goal.returns-clause-kept
returns-clause-kept c = rw (← c.self.view_is) (record {
  pairs = c.promote.ensures.pairs;
  same = record { capacity = c.promote.ensures.room; most_body = refl };
})
