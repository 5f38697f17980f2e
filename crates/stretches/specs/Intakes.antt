-- What came of a connection and was not given yet.
use Rattle.std.specs.Prelude.{◌≡◌, ℕ, ◌-◌, ◌==◌, List, length, ◌++◌, take, min}
use Rattle.std.specs.Prelude.{if◌then◌else◌}
use Rattle.stretches.specs.Fronts.{front_length}

-- the bytes, and how many at their beginning may be given
pub record Came : Type 0 where
  pub bytes : List ℕ
  pub ready : ℕ

-- how many may be given after a look: those of before, if there are any, and else the front
abbrev pub ready_after : Came → ℕ
ready_after came = if came.ready == 0 then front_length came.bytes else came.ready

-- so many bytes were given, as many as were ready and fit: what is at the beginning of the room,
-- with what is still held, is what was held
pub record Gives (old new : Came) (room : List ℕ) (count : ℕ) : Type 0 where
  pub count_is : count ≡ min old.ready (length room)
  pub given : take count room ++ new.bytes ≡ old.bytes
  pub ready : new.ready ≡ old.ready - count
