-- When a door is broken by its failures.
use Rattle.std.specs.Prelude.{ℕ, ◌+◌, ◌-◌, Bool, ◌||◌, ◌==◌, nat_le, if◌then◌else◌}
use Rattle.stretches.specs.declared.failing.FailureWindow.{FailureWindow}
use Rattle.stretches.specs.declared.failing.TheConstants.{FAILURE_WINDOW_MILLIS}
use Rattle.stretches.specs.declared.failing.TheConstants.{MOST_WINDOW_FAILURES}

-- too many came within the time
abbrev pub is_broken : FailureWindow → Bool
is_broken window = nat_le MOST_WINDOW_FAILURES window.count

-- the next failure begins a new count where the first of those before came long ago
abbrev pub counts_anew : FailureWindow → (now : ℕ) → Bool
counts_anew window now =
    (window.count == 0) || nat_le FAILURE_WINDOW_MILLIS (now - window.since)

-- what is counted after a failure at this time
abbrev pub after_failure : FailureWindow → (now : ℕ) → FailureWindow
after_failure window now =
    if is_broken window then window
    else if counts_anew window now then record { since = now; count = 1 }
    else record window { count = window.count + 1 }
