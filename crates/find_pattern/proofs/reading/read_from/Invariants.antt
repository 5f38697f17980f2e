use Rattle.std.proofs.Common.{◌≡◌, ◌≤◌, ◌-◌, length, drop}
use Rattle.find_pattern.specs.Patterns.{read_from}
use Rattle.find_pattern.proofs.PieceLemmas.{with_prefix}
use Rattle.find_pattern.proofs.reading.read_from.Given as goal

abbrev pub invariant-pieces : goal.invariant-pieces
invariant-pieces l = record {
  inside : l.at ≤ length l.text;
  so_far : with_prefix l.literal (read_from l.at (drop l.at l.text)) ≡ read_from l.start (drop l.start l.text);
}

abbrev pub decreases-pieces : goal.decreases-pieces
decreases-pieces l = length l.text - l.at
