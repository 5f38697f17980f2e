use Rattle.std.proofs.Common.{◌≡◌}
use Rattle.subscribers.specs.Views.{prepared}
use Rattle.subscribers.proofs.Lists.{written}
use Rattle.subscribers.proofs.subscriber_list.prepare_each.Given as goal

abbrev pub invariant-loop-subscriber : goal.invariant-loop-subscriber
invariant-loop-subscriber g l = l.list ≡ written (prepared l.place l.delta) l.subscriber-index l.fn.list
