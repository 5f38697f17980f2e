use Rattle.std.proofs.Common.{◌∷◌, []}
use Rattle.td_base.specs.declared.memory_door.DoorStep.TheVariants as step
use Rattle.td_base.proofs.DoorLemmas.{idle_inputs, AreFresh-append}
use Rattle.td_base.proofs.memory_door.MemoryDoor.push_idle.Goals as goal

pub invariant_of-self-2 : goal.invariant_of-self-2
invariant_of-self-2 c = record {
  given = c.self.invariant.given;
  inputs = rw c.in_ok-push_back.ensures.items (idle_inputs c.self.inside.script.items _ c.self.invariant.inputs);
  fresh = rw c.in_ok-push_back.ensures.items (AreFresh-append c.self.inside.script.items (step.Idle ∷ []) c.self.invariant.fresh tt);
  room = c.self.invariant.room;
}
