use Rattle.std.proofs.Common.{◌≡◌}
use Rattle.subscribers.specs.Views.{given_up}
use Rattle.subscribers.proofs.Lists.{written}
use Rattle.subscribers.proofs.subscriber_list.give_up_each.Given as goal

abbrev pub invariant-loop-subscriber : goal.invariant-loop-subscriber
invariant-loop-subscriber l = l.list ≡ written given_up l.subscriber-index l.fn.list
