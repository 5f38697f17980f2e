use Rattle.std.proofs.Common.{ap, map}
use Rattle.td_top.proofs.MirrorRuns.{followed, not_followed}
use Rattle.td_top.proofs.mirroring.follow_on.Goals as goal

pub returns-in-Ok-clause-ends : goal.returns-in-Ok-clause-ends
returns-in-Ok-clause-ends g c =
    followed c.args.follow.now.host.now c.args.words.now.address.now c.args.words.now.workers c.args.follow.now.mirror _ _ _ _ _ _ _ _ _ _ c.in-Ok.ensures.syncs
    c.serve_stated.ensures.ends

pub returns-in-Err-clause-ends : goal.returns-in-Err-clause-ends
returns-in-Err-clause-ends g c =
    not_followed c.args.follow.now.host.now c.args.words.now.address.now c.args.words.now.workers c.args.follow.now.mirror _ _ _ c.in-Err.fault _ _ _ _ _ _ _ _
    c.in-Err.ensures.syncs c.refuse_sync.ensures c.closed.ensures.status (ap (λ ds. map g.N.Door.Door.seen ds) c.closed.ensures.doors)
