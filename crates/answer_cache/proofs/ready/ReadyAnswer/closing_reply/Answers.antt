use Rattle.answer_cache.proofs.ReadyLemmas as ready
use Rattle.answer_cache.proofs.ready.ReadyAnswer.closing_reply.Goals as goal

pub returns : goal.returns
returns c =
    rw (
      c.in_ok-append-3.ensures.ok,
      c.in_ok-append-2.ensures.ok,
      c.in_ok-append.ensures.ok,
      c.from-out.ensures,
      c.in_ok-with_capacity.ensures.items,
      c.lines.ensures,
      c.body_sent-body.ensures,
    ) (ready.closes c.args.self.now c.args.head_only)
