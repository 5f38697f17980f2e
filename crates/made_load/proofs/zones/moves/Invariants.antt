use Rattle.std.proofs.Common.{◌≡◌, ◌≤◌, ◌+◌, ◌-◌, ◌%◌, ◌==◌, length}
use Rattle.std.specs.List.{filter, range_with_len}
use Rattle.made_load.proofs.zones.moves.Given as goal

abbrev pub invariant-loop-place : goal.invariant-loop-place
invariant-loop-place l = record {
  counted : l.moves + length (filter (λ k. k % 50 == l.fn.zone) (range_with_len l.place (l.fn.release + 1 - l.place)))
      ≡ length (filter (λ k. k % 50 == l.fn.zone) (range_with_len 2 (l.fn.release - 1)));
  few : l.moves + 2 ≤ l.place;
}
