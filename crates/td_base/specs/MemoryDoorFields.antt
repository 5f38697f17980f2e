-- What is true of the fields of a door in memory.
use Rattle.std.specs.Prelude.{◌≡◌, ◌+◌, ◌≤◌, drop, length}
use Rattle.std.specs.Vec.{vec_capacity}
use Rattle.td_base.specs.MemoryDoors.{AreFresh, inputs_of}
use Rattle.td_base.specs.declared.memory_door.MemoryDoor.TheInside.{Inside}

-- The inputs that are kept and not given are those of the script, of which each connection is
-- fresh; and those handed back and those still to come have room.
pub record HoldsScript (d : Inside) : Type 0 where
  pub given : d.given ≤ length d.inputs.items
  pub inputs : inputs_of d.script.items ≡ drop d.given d.inputs.items
  pub fresh : AreFresh d.script.items
  pub room : length d.inputs.items + d.room ≤ vec_capacity d.finished
