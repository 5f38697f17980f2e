use Rattle.std.proofs.Common.{◌≡◌}
use Rattle.publication_cases.proofs.tallies.publishes.Given as goal

abbrev pub invariant-loop : goal.invariant-loop
invariant-loop g l = l.publisher.pair ≡ l.fn.publisher.pair
