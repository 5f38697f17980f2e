use Rattle.std.proofs.Common.{◌≡◌, ◌∷◌, refl, rules}
use Rattle.td_base.specs.declared.memory_door.DoorStep.TheVariants as step
use Rattle.td_base.proofs.DoorLemmas.{next_same, next_inputs, next_taken, next_within, next_fresh, gives_conn}
use Rattle.td_base.proofs.memory_door.MemoryDoorDoor.accept.Goals as goal

pub invariant_of-self : goal.invariant_of-self
invariant_of-self c =
    let items : c.self.inside.script.items ≡ step.Conn c.in-Some-Conn.conn ∷ c.pop_front.new.self.items = search rules in
    let same = next_same c.self.inside.given c.self.inside.inputs.items _ _ _ items c.self.invariant.inputs in
    record {
      given = next_within c.self.inside.given c.self.inside.inputs.items _ _ same;
      inputs = next_inputs c.self.inside.given c.self.inside.inputs.items _ _ same;
      fresh = (next_fresh _ _ _ items c.self.invariant.fresh).1;
      room = c.self.invariant.room;
    }

pub returns-in-Some-Conn-clause-after : goal.returns-in-Some-Conn-clause-after
returns-in-Some-Conn-clause-after c =
    let items : c.self.inside.script.items ≡ step.Conn c.in-Some-Conn.conn ∷ c.pop_front.new.self.items = search rules in
    let same = next_same c.self.inside.given c.self.inside.inputs.items _ _ _ items c.self.invariant.inputs in
    rw (← c.self.view_is, items, next_taken c.self.inside.given c.self.inside.inputs.items _ _ same) refl

pub returns-in-Some-Conn-clause-accepts : goal.returns-in-Some-Conn-clause-accepts
returns-in-Some-Conn-clause-accepts c =
    let items : c.self.inside.script.items ≡ step.Conn c.in-Some-Conn.conn ∷ c.pop_front.new.self.items = search rules in
    gives_conn _ _ _ c.pop_front.new.self.items (rw (← c.self.view_is) items) (next_fresh _ _ _ items c.self.invariant.fresh).0
    (returns-in-Some-Conn-clause-after c)
