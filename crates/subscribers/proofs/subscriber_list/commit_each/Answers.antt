use Rattle.std.proofs.Common.{◌<◌, length, sym, ap, ◌∙◌, rules}
use Rattle.subscribers.specs.Views.{committed}
use Rattle.subscribers.proofs.Lists.{written_more}
use Rattle.subscribers.proofs.subscriber_list.commit_each.Goals as goal

pub loop-subscriber-preserved : goal.loop-subscriber-preserved
loop-subscriber-preserved c =
    let less : c.loop-subscriber.subscriber-index < length c.args.list.now = search rules in
    written_more committed c.args.list.now c.loop-subscriber.list c.loop-subscriber.subscriber-index c.subscriber-item.result c.commit.new.self
    c.loop-subscriber.invariant less c.subscriber-item.is
    (c.commit.ensures ∙ ap committed (sym c.subscriber-item.is))
