use Rattle.std.proofs.Common.{ap, map}
use Rattle.td_top.proofs.MirrorRuns.{left_all, stated_refused, stated_served, stated_starved}
use Rattle.td_top.proofs.OpenedLemmas.{served_as}
use Rattle.td_top.proofs.mirroring.serve_stated.Goals as goal

pub returns-in-Ok-open_stated-clause-ends : goal.returns-in-Ok-open_stated-clause-ends
returns-in-Ok-open_stated-clause-ends g c =
    stated_served c.args.follow.now.host.now c.args.words.now.address.now c.args.words.now.workers c.args.follow.now.mirror _ _ _ _ _
    c.in-Ok-open_stated.ensures.stated
    (served_as _ _ _ _ _ _ _ _ _ c.in-Ok.ensures c.serve_opened.ensures.ends)

pub returns-clause-ends : goal.returns-clause-ends
returns-clause-ends g c =
    stated_refused c.args.follow.now.host.now c.args.words.now.address.now c.args.words.now.workers c.args.follow.now.mirror c.in-Err.fault _ _ _ _ _ _ _ _ _
    c.in-Err.ensures.stated c.refuse_install.ensures c.closed-in-Err.ensures.status (ap (λ ds. map g.N.Door.Door.seen ds) c.closed-in-Err.ensures.doors)

pub returns-in_default-clause-ends : goal.returns-in_default-clause-ends
returns-in_default-clause-ends g c =
    stated_starved c.args.follow.now.host.now c.args.words.now.address.now c.args.words.now.workers c.args.follow.now.mirror _ _ _ _
    (left_all _ _ _ _ _) c.closed.ensures.status (ap (λ ds. map g.N.Door.Door.seen ds) c.closed.ensures.doors)
