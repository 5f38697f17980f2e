-- How long a worker stays with a connection, and what that cost.
use Rattle.std.specs.Prelude.{ℕ, ◌+◌, ◌-◌, ◌/◌, Bool, ◌||◌, max, min, nat_le}
use Rattle.stretches.specs.declared.queues.Queue.{Queue}
use Rattle.stretches.specs.declared.queues.Queue.TheVariants as queue
use Rattle.stretches.specs.declared.turn.TheConstants.{FIRST_TURN_MICROS, LONG_TURN_MICROS}
use Rattle.stretches.specs.declared.turn.TheConstants.{ROUND_MICROS, SHORT_TURN_MICROS}
use Rattle.stretches.specs.declared.turn.WorkerTurn.{WorkerTurn}

-- the share of one connection in a round of it and so many others
abbrev pub share : (others : ℕ) → ℕ
share others = max 1 (ROUND_MICROS / (others + 1))

-- for how long a connection of a queue is served, in which so many others wait
abbrev pub turn_limit : Queue → (others : ℕ) → ℕ
turn_limit queue.Fresh others = FIRST_TURN_MICROS
turn_limit queue.Light others = min (share others) SHORT_TURN_MICROS
turn_limit queue.Heavy others = min (share others) LONG_TURN_MICROS

-- a turn was a long one: it cost much, or left something unserved that had been requested
abbrev pub is_long_turn : (micros : ℕ) → (unfinished : Bool) → Bool
is_long_turn micros unfinished = nat_le SHORT_TURN_MICROS micros || unfinished

-- by the last reading of the clock the turn took its time
abbrev pub is_spent : WorkerTurn → Bool
is_spent turn = nat_le turn.limit (turn.seen - turn.began)

-- what a turn cost: the time since it began, and no more than its thread ran
abbrev pub turn_cost : WorkerTurn → (now ran : ℕ) → ℕ
turn_cost turn now ran = min (now - turn.began) ran
