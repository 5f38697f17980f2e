use Rattle.std.proofs.Common.{ℤ, pos, ◌+ℤ◌, ◌<ℤ◌, ◌≤ℤ◌}
use Rattle.jiff_core.specs.Calendar.{IsBetween}
use Rattle.posix_footer.specs.Onset.{onset_of}
use Rattle.posix_footer.proofs.ahead.next_of_edge.Given as goal

-- the years looked at so far, and all before them, have come
abbrev pub invariant-loop-ahead : goal.invariant-loop-ahead
invariant-loop-ahead l =
    (year : ℤ) → IsBetween (pos 1798) (pos 9999) year → (year +ℤ pos 1) <ℤ (l.year +ℤ pos l.ahead) → onset_of l.rule l.std year l.edge ≤ℤ l.t.seconds
