-- What contracts see of a door in memory, and of a door of which chosen calls fail.
use Rattle.std.specs.Prelude.{◌≡◌, ℕ, List, [], ◌∷◌, ◌++◌, take, drop, map}
use Rattle.std.specs.Prelude.{Option, Some}
use Rattle.td_base.specs.DoorViews.{DoorView, Finished}
use Rattle.td_base.specs.Doors.{answer_of}
use Rattle.td_base.specs.Memory.{CallState, FaultyConnState, faulty_conn}
use Rattle.td_base.specs.Views.{ConnView}
use Rattle.td_base.specs.declared.door.Accepted.{Accepted}
use Rattle.td_base.specs.declared.door.Accepted.TheVariants as accepted
use Rattle.td_base.specs.declared.door.DoorAnswer.{DoorAnswer}
use Rattle.td_base.specs.declared.memory_conn.MemoryConn.{MemoryConn}
use Rattle.td_base.specs.declared.memory_door.DoorStep.{DoorStep}
use Rattle.td_base.specs.declared.memory_door.DoorStep.TheVariants as step
use Rattle.td_base.specs.declared.memory_door.HandedBackConn.{HandedBackConn}

-- ---- the connections of a door in memory

abbrev pub memory_conn : MemoryConn → ConnView
memory_conn c = record {
  given = Some c.source.given;
  left = Some c.source.left;
  taken = Some c.sink.taken;
  read_faults = 0;
  write_faults = c.sink.faults;
  source = 0;
  sink = 0;
}

abbrev pub door_conn : FaultyConnState MemoryConn → ConnView
door_conn conn = faulty_conn memory_conn conn

-- a connection that has given and taken nothing, and of which no call failed
pub record IsFresh (conn : FaultyConnState MemoryConn) : Type 0 where
  pub given : conn.inner.source.given ≡ []
  pub taken : conn.inner.sink.taken ≡ []
  pub reads : conn.reads.faults ≡ 0
  pub writes : conn.writes.faults ≡ 0

-- ---- scripts

-- the inputs of the connections of a script
abbrev pub inputs_of : List DoorStep → List (List ℕ)
inputs_of [] = []
inputs_of (step.Conn conn ∷ steps) = conn.inner.source.left ∷ inputs_of steps
inputs_of (step.Idle ∷ steps) = inputs_of steps

-- each connection of a script is fresh
abbrev pub AreFresh : List DoorStep → Type 0
AreFresh [] = Unit {0}
AreFresh (step.Conn conn ∷ steps) = IsFresh conn × AreFresh steps
AreFresh (step.Idle ∷ steps) = AreFresh steps

-- what a door answers of which this script is left
abbrev pub accepted_at : List DoorStep → Accepted (FaultyConnState MemoryConn)
accepted_at [] = accepted.Ended
accepted_at (step.Conn conn ∷ steps) = accepted.Given conn
accepted_at (step.Idle ∷ steps) = accepted.Idle

-- ---- doors in memory

-- a door: the inputs of the connections given, the script that is left, the connections that were
-- handed back, its last answer, and for how many more connections it has room
pub record MemoryDoorState : Type 0 where
  pub given : List (List ℕ)
  pub script : List DoorStep
  pub finished : List HandedBackConn
  pub last : Option DoorAnswer
  pub room : ℕ

abbrev pub finished_of : HandedBackConn → Finished
finished_of s = record { conn = door_conn s.conn; report = s.report }

abbrev pub memory_door : MemoryDoorState → DoorView
memory_door s = record {
  content = Some (record {
    given = s.given;
    coming = inputs_of s.script;
    finished = map finished_of s.finished;
  });
  last = s.last;
  faults = 0;
}

-- the door after it was asked for the next connection
abbrev pub after_accept : MemoryDoorState → MemoryDoorState
after_accept s = record s {
  given = s.given ++ inputs_of (take 1 s.script);
  script = drop 1 s.script;
  last = Some (answer_of (accepted_at s.script));
}

-- ---- doors of which chosen calls fail

-- a door of which chosen calls fail: the door inside, its calls, and its own last answer
pub record FaultyDoorState (D : Type 0) : Type 0 where
  pub inner : D
  pub calls : CallState
  pub last : Option DoorAnswer

module _ {D : Type 0} where
  abbrev pub faulty_door : (D → DoorView) → FaultyDoorState D → DoorView
  faulty_door seen s = record {
    content = (seen s.inner).content;
    last = s.last;
    faults = s.calls.faults;
  }
