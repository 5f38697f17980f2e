-- For how long a connection may rest, and what decides which one gives way.
use Rattle.std.specs.Prelude.{ℕ, ◌+◌, ◌*◌, ◌-◌, ◌^◌, min, Bool, true, false, ◌||◌, ◌&&◌, ◌==◌}
use Rattle.std.specs.Prelude.{nat_le, nat_lt}
use Rattle.stretches.specs.declared.life.Life.{Life}
use Rattle.stretches.specs.declared.life.Phase.{Phase}
use Rattle.stretches.specs.declared.life.Phase.TheVariants as phase
use Rattle.stretches.specs.declared.life.TheConstants.{HEAD_MILLIS, IDLE_MILLIS, LINGER_MILLIS}
use Rattle.stretches.specs.declared.life.TheConstants.{PROGRESS_MILLIS, STALLED_MILLIS}

-- for how long it may make no progress; without end where it waits for a worker
abbrev pub patience : Phase → ℕ
patience phase.Silent = IDLE_MILLIS
patience phase.Idle = IDLE_MILLIS
patience (phase.Hearing since) = PROGRESS_MILLIS
patience phase.Sending = PROGRESS_MILLIS
patience phase.Leaving = LINGER_MILLIS
patience phase.Ready = 2 ^ 64 - 1

-- a head is not whole so long after its first byte
abbrev pub is_late : Phase → (now : ℕ) → Bool
is_late phase.Silent now = false
is_late phase.Idle now = false
is_late (phase.Hearing since) now = nat_le HEAD_MILLIS (now - since)
is_late phase.Sending now = false
is_late phase.Leaving now = false
is_late phase.Ready now = false

-- it made no progress for too long, or its head is not whole in time
abbrev pub is_over : Life → (now : ℕ) → Bool
is_over life now = nat_le (patience life.phase) (now - life.moved) || is_late life.phase now

-- the order in which phases give way, the lowest first
abbrev pub rank : Phase → ℕ
rank phase.Silent = 0
rank phase.Leaving = 1
rank phase.Idle = 2
rank (phase.Hearing since) = 3
rank phase.Sending = 4
rank phase.Ready = 5

-- whether it may be closed, by its phase, and by whether it has made no progress for long
abbrev pub yields_by : Phase → (stalled : Bool) → Bool
yields_by phase.Silent stalled = true
yields_by phase.Leaving stalled = true
yields_by phase.Idle stalled = true
yields_by (phase.Hearing since) stalled = true
yields_by phase.Sending stalled = stalled
yields_by phase.Ready stalled = false

-- it may be closed for a new connection: one that takes a reply only if that has stood still, and
-- none that is to be served
abbrev pub yields : Life → (now : ℕ) → Bool
yields life now = yields_by life.phase (nat_le STALLED_MILLIS (now - life.moved))

-- by two numbers each, the first of which counts more
abbrev pub is_before : (rank turned other_rank other_turned : ℕ) → Bool
is_before r t s u = nat_lt r s || ((r == s) && nat_lt t u)

-- it gives way before another: by what they wait for, and then as the one that turned longer ago
abbrev pub comes_before : Life → Life → Bool
comes_before life other = is_before (rank life.phase) life.turned (rank other.phase) other.turned

-- how much memory it has held for how long: bytes times milliseconds
abbrev pub weight : Life → (now : ℕ) → ℕ
weight life now = min (life.held * min (now - life.since + 1) (2 ^ 64 - 1)) (2 ^ 64 - 1)
