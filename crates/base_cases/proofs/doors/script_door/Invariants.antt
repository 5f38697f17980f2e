use Rattle.base_cases.specs.Settled.{IsUnasked}
use Rattle.base_cases.proofs.doors.script_door.Given as goal

abbrev pub invariant-steps : goal.invariant-steps
invariant-steps l = IsUnasked l.door
