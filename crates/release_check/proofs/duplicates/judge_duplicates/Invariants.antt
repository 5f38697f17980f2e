use Rattle.std.proofs.Common.{◌≡◌, List, ℕ, map, take}
use Rattle.std.specs.List.{list_any}
use Rattle.std.specs.Str.{bytes_eq}
use Rattle.release_check.proofs.Repeats.{RepeatsSoFar}
use Rattle.release_check.proofs.duplicates.judge_duplicates.Given as goal

abbrev pub invariant-loop-name : goal.invariant-loop-name
invariant-loop-name l = record {
  kept : (text : List ℕ) → list_any (bytes_eq text) (map (λ n. n.now) l.before.keys) ≡ list_any (bytes_eq text) (map (λ n. n.now) (take l.name-index l.names));
  so_far : RepeatsSoFar (λ n. n.now) l.names l.name-index;
}
