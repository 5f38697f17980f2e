use Rattle.std.proofs.Common.{◌≡◌, ◌++◌, drop, map}
use Rattle.change_index.proofs.kept.places.Given as goal

abbrev pub invariant-loop-placed : goal.invariant-loop-placed
invariant-loop-placed l = l.places.items ++ map (λ p. p.at) (drop l.placed-index l.kept) ≡ map (λ p. p.at) l.kept
