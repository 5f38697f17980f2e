use Rattle.std.proofs.Common.{◌≡◌, ℕ, ◌+◌, ◌-◌, List, ◌++◌, length, take}
use Rattle.ical_lines.specs.Lines.{folded}
use Rattle.ical_lines.proofs.folding.append_folded.Given as goal

abbrev pub invariant-lines : goal.invariant-lines
invariant-lines l = record {
  so_far : (rest : List ℕ) → l.out ++ folded l.room (l.left ++ rest) ≡ l.fn.out ++ folded l.fn.room (l.octets ++ rest);
  kept : take (length l.fn.out) l.out ≡ l.fn.out;
}

-- a line without room takes none, and the next has room
abbrev pub decreases-lines : goal.decreases-lines
decreases-lines l = length l.left + (length l.left - l.room)
