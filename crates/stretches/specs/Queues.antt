-- Which of the queues of a door is served next.
use Rattle.std.specs.Prelude.{◌≡◌, ℕ, ◌≤◌, ◌+◌, ◌-◌, ◌^◌, min, max, Bool, true, false, ◌&&◌, ◌||◌}
use Rattle.std.specs.Prelude.{not, ◌≢◌, ◌<◌, ⊤, List, [], ◌∷◌}
use Rattle.std.specs.Prelude.{if◌then◌else◌}
use Rattle.stretches.specs.declared.queues.Queue.{Queue}
use Rattle.stretches.specs.declared.queues.Queue.TheVariants as queue
use Rattle.stretches.specs.declared.queues.Shared.{Shared}
use Rattle.stretches.specs.declared.queues.Waiting.{Waiting}

-- where an accepted connection waits for its next turn
abbrev pub queue_for : (was_long costly : Bool) → Queue
queue_for was_long costly = if was_long || costly then queue.Heavy else queue.Light

-- whether one waits in a queue
abbrev pub waits_in : Waiting → Queue → Bool
waits_in waiting queue.Fresh = waiting.fresh
waits_in waiting queue.Light = waiting.light
waits_in waiting queue.Heavy = waiting.heavy

abbrev pub none_waits : Waiting → Bool
none_waits waiting = not waiting.fresh && not waiting.light && not waiting.heavy

-- what was spent on a queue
abbrev pub spent_on : Shared → Queue → ℕ
spent_on shared queue.Fresh = shared.fresh
spent_on shared queue.Light = shared.light
spent_on shared queue.Heavy = shared.heavy

-- on each queue in which one waits at least as much was spent as on this one
abbrev pub AllAtLeast : Shared → Waiting → Queue → Type 0
AllAtLeast shared waiting queue =
    (waiting.fresh ≡ true → spent_on shared queue ≤ shared.fresh)
    × (waiting.light ≡ true → spent_on shared queue ≤ shared.light)
    × (waiting.heavy ≡ true → spent_on shared queue ≤ shared.heavy)

-- where none waits, as much was spent as on the queue that is served
abbrev pub raised_one : (waits : Bool) → (spent served : ℕ) → ℕ
raised_one waits spent served = if waits then spent else max spent served

abbrev pub raised : Shared → Queue → Waiting → Shared
raised shared queue waiting = record {
  fresh = raised_one waiting.fresh shared.fresh (spent_on shared queue);
  light = raised_one waiting.light shared.light (spent_on shared queue);
  heavy = raised_one waiting.heavy shared.heavy (spent_on shared queue);
}

-- so much more was spent on one queue
abbrev pub more : (spent micros : ℕ) → ℕ
more spent micros = min (spent + micros) (2 ^ 64 - 1)

abbrev pub charged : Shared → Queue → (micros : ℕ) → Shared
charged shared queue.Fresh micros = record shared { fresh = more shared.fresh micros }
charged shared queue.Light micros = record shared { light = more shared.light micros }
charged shared queue.Heavy micros = record shared { heavy = more shared.heavy micros }

-- one turn of a worker: in which queues one waited, which was served, and for how long
pub record Served : Type 0 where
  pub waiting : Waiting
  pub queue : Queue
  pub micros : ℕ

-- it was the queue that is served next
abbrev pub IsNext : Shared → Served → Type 0
IsNext shared turn =
    (waits_in turn.waiting turn.queue ≡ true) × AllAtLeast shared turn.waiting turn.queue

-- what was spent after the turn
abbrev pub after_turn : Shared → Served → Shared
after_turn shared turn = charged (raised shared turn.queue turn.waiting) turn.queue turn.micros

-- turns one after another, each of a microsecond at least: in a queue one waits all the time, and
-- others are served
abbrev pub PassOver : Queue → Shared → List Served → Type 0
PassOver queue shared [] = ⊤
PassOver queue shared (turn ∷ turns) = IsNext shared turn × (waits_in turn.waiting queue ≡ true)
    × (turn.queue ≢ queue) × (0 < turn.micros) × PassOver queue (after_turn shared turn) turns

-- how many turns others may have before a queue: as many as it has more microseconds than they
abbrev pub most_before : Shared → Queue → ℕ
most_before shared queue = (spent_on shared queue + 1 - shared.fresh)
    + (spent_on shared queue + 1 - shared.light) + (spent_on shared queue + 1 - shared.heavy)
