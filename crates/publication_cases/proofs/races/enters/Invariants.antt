use Rattle.std.proofs.Common.{◌≡◌}
use Rattle.publication_cases.proofs.races.enters.Given as goal

abbrev pub invariant-loop : goal.invariant-loop
invariant-loop l = l.desk.pair ≡ l.fn.desk.pair
