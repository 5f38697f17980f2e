use Rattle.std.proofs.Common.{ℤ, pos, ◌+ℤ◌, ◌<ℤ◌}
use Rattle.jiff_core.specs.Calendar.{IsBetween}
use Rattle.posix_footer.specs.Onset.{onset_of}
use Rattle.posix_footer.proofs.state_at.latest.Given as goal

-- the years looked at so far, and all after them, come too late
abbrev pub invariant-loop-back : goal.invariant-loop-back
invariant-loop-back l =
    (year : ℤ) → IsBetween (pos 1798) (pos 9999) year → (l.year +ℤ pos 1) <ℤ (year +ℤ pos l.back) → l.t.seconds <ℤ onset_of l.rule l.std year l.edge
