use Rattle.std.proofs.Common.{◌≡◌}
use Rattle.subscribers.specs.Views.{committed}
use Rattle.subscribers.proofs.Lists.{written}
use Rattle.subscribers.proofs.subscriber_list.commit_each.Given as goal

abbrev pub invariant-loop-subscriber : goal.invariant-loop-subscriber
invariant-loop-subscriber l = l.list ≡ written committed l.subscriber-index l.fn.list
