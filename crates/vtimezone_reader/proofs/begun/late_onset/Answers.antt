use Rattle.vtimezone_reader.proofs.LateOnsets.{one_of, begun_by}
use Rattle.vtimezone_reader.specs.Turns.{HasBegun}
use Rattle.vtimezone_reader.proofs.begun.late_onset.Goals as goal

pub loop-part-preserved : goal.loop-part-preserved
loop-part-preserved c =
    one_of (λ m. HasBegun c.args.parts.now c.args.t.seconds m.seconds) c.loop-part.late c.late_of_part.result c.later_of-late.result c.later_of-late.ensures
    c.loop-part.invariant
    (begun_by c.args.parts.now c.part-item.result c.loop-part.part-index c.args.t.seconds c.late_of_part.result c.loop-part-test.true c.part-item.is
    c.late_of_part.ensures)
