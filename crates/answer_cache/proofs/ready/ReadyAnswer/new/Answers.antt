use Rattle.answer_cache.proofs.ReadyLemmas as ready
use Rattle.answer_cache.proofs.ready.ReadyAnswer.new.Goals as goal

pub invariant_of-result : goal.invariant_of-result
invariant_of-result c = rw c.len-head.ensures (ready.all_ready c.args.answer c.in_ok-front.front c.in_ok-front.ensures c.requires c.if-answer-eq304.true)

pub invariant_of-result-2 : goal.invariant_of-result-2
invariant_of-result-2 c =
    rw (c.new.ensures, c.len-head.ensures, c.in_ok-reply.ensures, c.as_slice.ensures)
    (ready.rest_ready c.args.answer c.in_ok-front.front c.in_ok-front.ensures c.requires c.if-answer-eq304.false)

pub returns : goal.returns
returns c =
    rw (c.new.ensures, c.len-head.ensures, c.in_ok-reply.ensures, c.as_slice.ensures)
    (ready.rest_is c.args.answer c.in_ok-front.front c.in_ok-front.ensures c.requires c.if-answer-eq304.false)
