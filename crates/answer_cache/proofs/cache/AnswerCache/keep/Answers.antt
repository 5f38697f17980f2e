use Rattle.std.proofs.Common.{ap, arith, length, refl}
use Rattle.answer_cache.proofs.cache.AnswerCache.keep.Goals as goal

pub returns-then-body-self : goal.returns-then-body-self
returns-then-body-self c = rw (← c.self.view_is) (record {
  pairs = c.put.ensures.pairs;
  bound = λ long. absurd (omega (arith, long, c.if-body-self.true, ap length c.body.ensures));
  same = record { capacity = c.put.ensures.room; most_body = refl };
})
