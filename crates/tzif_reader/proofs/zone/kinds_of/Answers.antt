use Rattle.tzif_reader.specs.Faults.{is_unnamed}
use Rattle.td_base.proofs.lemmas.LeastLemmas.{least_clear}
use Rattle.tzif_reader.proofs.zone.kinds_of.Goals as goal

pub kind_of-kind-requires-clause-named : goal.kind_of-kind-requires-clause-named
kind_of-kind-requires-clause-named c =
    least_clear (is_unnamed c.args.designations.now c.args.types.now) c.loop-i.i c.args.typecnt c.loop-i-test.true c.requires.named
