use Rattle.td_top.proofs.FollowLines.{not_published}
use Rattle.td_top.proofs.mirror_feed.publish.Goals as goal

pub returns-in-Ok : goal.returns-in-Ok
returns-in-Ok g c = c.publish_stated.ensures c.args.mirror.now c.in-Ok.ensures.manifest c.in-Ok.ensures.files

pub returns-in-Err : goal.returns-in-Err
returns-in-Err g c = not_published c.args.mirror.now c.args.session.now _ c.brief.ensures
