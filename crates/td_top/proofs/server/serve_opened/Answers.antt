use Rattle.std.proofs.Common.{refl, rules}
use Rattle.run_ends.specs.Running.Server.{no_network, out_of_memory}
use Rattle.td_top.proofs.OpenedLemmas.{called_later, given_up}
use Rattle.td_top.proofs.WorkLemmas.{has_works}
use Rattle.td_top.proofs.ServerLemmas.{called_told, none_out, opens_doors}
use Rattle.td_top.proofs.server.serve_opened.Goals as goal

pub works_for-requires-clause-new : goal.works_for-requires-clause-new
works_for-requires-clause-new g c = none_out g.N.Door.Door.seen c.in-Given.doors.items c.in-Given.ensures.opens.fits.1

pub returns-in-Ok-clause-ends : goal.returns-in-Ok-clause-ends
returns-in-Ok-clause-ends g c =
    let to = c.args.serving.now in
    c.serve_beside.ensures.serves to.role.now to.address.now to.workers _ _ _
    (opens_doors g.N.Door.Door.seen _ _ to.address.now to.workers c.in-Given.doors c.in-Given.ensures.opens) c.in-Given.ensures.opens.later
    (c.in-Ok.ensures.works c.args.opened.session.installer.pair _ c.requires.desks.seen)

pub returns-in-Err-clause-ends : goal.returns-in-Err-clause-ends
returns-in-Err-clause-ends g c =
    let to = c.args.serving.now in
    given_up g.N.Door.Door.seen to.role.now to.address.now to.workers _ _ _ _ _ _ c.give_up.ensures.status c.give_up.ensures.doors
    (called_later _ _ _ _ c.in-Given.ensures.opens.later) out_of_memory

pub returns-in-Failed-clause-ends : goal.returns-in-Failed-clause-ends
returns-in-Failed-clause-ends g c =
    let to = c.args.serving.now in
    given_up g.N.Door.Door.seen to.role.now to.address.now to.workers _ _ _ _ _ _ c.give_up-in-Failed.ensures.status c.give_up-in-Failed.ensures.doors
    (called_later _ _ _ _ c.in-Failed.ensures.opens.later)
    (no_network refl (called_told g.N.Door.Door.seen _ _ _ _ c.in-Failed.ensures.opens.told) (c.in-Failed.ensures.opens.failed refl))

pub returns-in-NoMemory-clause-ends : goal.returns-in-NoMemory-clause-ends
returns-in-NoMemory-clause-ends g c =
    let to = c.args.serving.now in
    given_up g.N.Door.Door.seen to.role.now to.address.now to.workers _ _ _ _ _ _ c.give_up-in-NoMemory.ensures.status c.give_up-in-NoMemory.ensures.doors
    (called_later _ _ _ _ c.in-NoMemory.ensures.opens.later) out_of_memory

pub serve_beside-requires-clause-works : goal.serve_beside-requires-clause-works
serve_beside-requires-clause-works g c =
    let has = has_works _ c.args.opened.session.installer.pair _ _ c.in-Ok.works.items
    (c.in-Ok.ensures.works c.args.opened.session.installer.pair _ c.requires.desks.seen) in
    search (has, rules)
