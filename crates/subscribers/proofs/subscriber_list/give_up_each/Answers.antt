use Rattle.std.proofs.Common.{◌<◌, length, sym, ap, ◌∙◌, rules}
use Rattle.subscribers.specs.Views.{given_up}
use Rattle.subscribers.proofs.Lists.{written_more}
use Rattle.subscribers.proofs.subscriber_list.give_up_each.Goals as goal

pub loop-subscriber-preserved : goal.loop-subscriber-preserved
loop-subscriber-preserved c =
    let less : c.loop-subscriber.subscriber-index < length c.args.list.now = search rules in
    written_more given_up c.args.list.now c.loop-subscriber.list c.loop-subscriber.subscriber-index c.subscriber-item.result c.give_up.new.self
    c.loop-subscriber.invariant less c.subscriber-item.is
    (c.give_up.ensures ∙ ap given_up (sym c.subscriber-item.is))
