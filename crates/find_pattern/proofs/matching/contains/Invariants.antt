use Rattle.std.proofs.Common.{◌≡◌, length}
use Rattle.find_pattern.specs.Matching.{contains}
use Rattle.find_pattern.proofs.matching.contains.Given as goal

abbrev pub invariant-suffixes : goal.invariant-suffixes
invariant-suffixes l = contains l.text l.left ≡ contains l.text l.name

abbrev pub decreases-suffixes : goal.decreases-suffixes
decreases-suffixes l = length l.left
