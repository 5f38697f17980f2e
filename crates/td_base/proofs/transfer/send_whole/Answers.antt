use Rattle.std.proofs.Common.{rules, take-add, refl, ◌∙◌}
use Rattle.std.proofs.KnownBytes.{Appends-trans}
use Rattle.std.proofs.lemmas.List.{take_rest}
use Rattle.td_base.proofs.transfer.send_whole.Goals as goal

pub pieces-preserved : goal.pieces-preserved
pieces-preserved g c =
    let write = c.in-Took.ensures.write in
    let before = c.pieces.invariant in record {
      told = rw (take-add c.pieces.at c.in-Took.count c.args.bytes.now)
          (Appends-trans _ _ _ _ _ before.told (rw (take_rest c.args.bytes.now c.pieces.at) at write.writes.told));
      steady = write.writes.steady refl ∙ before.steady;
      given = write.given ∙ before.given;
      read = write.read ∙ before.read;
      same = record { source = write.same.source ∙ before.same.source; sink = write.same.sink ∙ before.same.sink };
      inside = search rules;
    }
