use Rattle.run_plans.specs.Doors.{IsUnaskedDoor}
use Rattle.run_plans.proofs.outside.with_steps.Given as goal

abbrev pub invariant-loop-step : goal.invariant-loop-step
invariant-loop-step l = IsUnaskedDoor l.door
