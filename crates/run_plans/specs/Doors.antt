-- Doors that were not asked yet.
use Rattle.std.specs.Prelude.{◌≡◌, [], None, IsSome}
use Rattle.td_base.specs.Doors.{IsNewDoor}
use Rattle.td_base.specs.MemoryDoors.{FaultyDoorState, MemoryDoorState, faulty_door, memory_door}

-- a door in memory that has given nothing and answered nothing
pub record IsUnaskedDoor (door : MemoryDoorState) : Type 0 where
  pub given : door.given ≡ []
  pub finished : door.finished ≡ []
  pub last : door.last ≡ None

-- a door that a network may be given
pub record IsNew (door : FaultyDoorState MemoryDoorState) : Type 0 where
  pub new : IsNewDoor (faulty_door memory_door door)
  pub told : IsSome (faulty_door memory_door door).content
