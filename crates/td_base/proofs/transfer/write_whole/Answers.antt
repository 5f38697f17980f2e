use Rattle.std.proofs.Common.{rules, take-add, refl, ◌∙◌}
use Rattle.std.proofs.KnownBytes.{Appends-trans}
use Rattle.std.proofs.lemmas.List.{take_rest}
use Rattle.td_base.proofs.transfer.write_whole.Goals as goal

pub pieces-preserved : goal.pieces-preserved
pieces-preserved g c = record {
  told = rw (take-add c.pieces.at c.in-Took.count c.args.bytes.now)
      (Appends-trans _ _ _ _ _ c.pieces.invariant.told (rw (take_rest c.args.bytes.now c.pieces.at) at c.in-Took.ensures.write.told));
  steady = c.in-Took.ensures.write.steady refl ∙ c.pieces.invariant.steady;
  inside = search rules;
}
