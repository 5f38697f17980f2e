-- Doors whose connections are back.
use Rattle.std.specs.Prelude.{◌≡◌, length, IfSome, []}
use Rattle.td_base.specs.DoorViews.{DoorView}
use Rattle.td_base.specs.MemoryDoors.{MemoryDoorState}

-- each connection that the door gave was handed back
abbrev pub IsDoorSettled : DoorView → Type 0
IsDoorSettled door = IfSome door.content (λ c. length c.finished ≡ length c.given)

-- a door in memory that has given nothing, and to which nothing was handed back
pub record IsUnasked (door : MemoryDoorState) : Type 0 where
  pub given : door.given ≡ []
  pub finished : door.finished ≡ []
