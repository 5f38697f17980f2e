use Rattle.base_cases.specs.Settled.{IsDoorSettled}
use Rattle.td_base.specs.MemoryDoors.{faulty_door, memory_door}
use Rattle.base_cases.proofs.doors.door.Given as goal

abbrev pub invariant-calls : goal.invariant-calls
invariant-calls l = IsDoorSettled (faulty_door memory_door l.door)
