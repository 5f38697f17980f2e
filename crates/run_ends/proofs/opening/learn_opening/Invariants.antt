use Rattle.std.proofs.Common.{◌≡◌, ◌++◌, length, All}
use Rattle.run_ends.specs.Opening.{HasSeen}
use Rattle.run_ends.proofs.opening.learn_opening.Given as goal

abbrev pub invariant-loop-one : goal.invariant-loop-one
invariant-loop-one l = record {
  whole : l.yielded ++ l.one-iterator.rest.items ≡ l.fn.desks.items;
  pairs : All (λ d. d.pair ≡ l.fn.installer.pair) l.one-iterator.rest.items;
  number : length l.learnt.items ≡ length l.yielded;
  seen : All (HasSeen l.fn.installer.pair (length l.fn.installer.list)) l.learnt.items;
}
