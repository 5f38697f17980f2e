use Rattle.td_top.proofs.FollowLines.{is_faulted, is_synced}
use Rattle.td_top.proofs.mirror_feed.sync_once.Goals as goal

pub publish-requires : goal.publish-requires
publish-requires g c = c.in-Ok.ensures.settled

pub returns-in-Ok : goal.returns-in-Ok
returns-in-Ok g c = λ line grows.
    is_synced c.args.follow.now.host.now _ _ _ _ c.args.session.now _ line _ grows c.in-Ok.ensures.syncs c.publish.ensures c.publish.new.session.knows

pub returns-in-Err : goal.returns-in-Err
returns-in-Err g c = λ line grows.
    is_faulted c.args.follow.now.host.now _ _ _ _ c.args.session.now c.in-Err.fault line _ grows c.in-Err.ensures.syncs c.sync_refusal.ensures
    c.args.session.now.knows
