use Rattle.std.proofs.Common.{◌≡◌, ◌++◌, length, take, drop}
use Rattle.std.specs.List.{flat_map}
use Rattle.console.specs.Replies.{spaced}
use Rattle.console.proofs.news.put_names.Given as goal

-- what is written, with the names that are left, is the whole
abbrev pub invariant-loop-name : goal.invariant-loop-name
invariant-loop-name l = record {
  whole : l.out ++ flat_map spaced (drop l.name-index l.names) ≡ l.initial.out ++ flat_map spaced l.names;
  kept : take (length l.initial.out) l.out ≡ l.initial.out;
}
