use Rattle.std.proofs.Common.{◌≡◌, ◌≤◌, ◌+◌, ◌-◌}
use Rattle.stretches.specs.Costs.{count}
use Rattle.stretches.specs.declared.costs.TheConstants.{MOST_QUICK_SLASHES}
use Rattle.stretches.proofs.costs.is_long.Given as goal

abbrev pub invariant-loop-seen : goal.invariant-loop-seen
invariant-loop-seen l = (count 47 l.path ≡ l.seen + count 47 l.left) × (l.seen ≤ MOST_QUICK_SLASHES)

abbrev pub decreases-loop-seen : goal.decreases-loop-seen
decreases-loop-seen l = MOST_QUICK_SLASHES - l.seen
