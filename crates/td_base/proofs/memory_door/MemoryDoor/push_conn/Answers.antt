use Rattle.std.proofs.Common.{◌≡◌, ◌∷◌, ◌++◌, [], rules}
use Rattle.td_base.specs.declared.memory_door.DoorStep.TheVariants as step
use Rattle.td_base.proofs.DoorLemmas.{pushed_inputs, AreFresh-append}
use Rattle.td_base.proofs.memory_door.MemoryDoor.push_conn.Goals as goal

pub invariant_of-self-2 : goal.invariant_of-self-2
invariant_of-self-2 c =
    let script : c.push_back.new.self.items ≡ c.self.inside.script.items ++ step.Conn c.args.conn ∷ [] = search rules in
    let inputs : c.push_reserved.new.self.items ≡ c.self.inside.inputs.items ++ c.args.conn.inner.source.left ∷ [] = search rules in
    record {
      given = search rules;
      inputs = rw (script, inputs) (pushed_inputs _ c.self.inside.inputs.items c.self.inside.script.items c.args.conn c.self.invariant.given
          c.self.invariant.inputs);
      fresh = rw script (AreFresh-append c.self.inside.script.items (step.Conn c.args.conn ∷ []) c.self.invariant.fresh (c.requires.fresh, tt));
      room = search rules;
    }
