use Rattle.vtimezone_reader.proofs.LeastOnset.{among_more}
use Rattle.vtimezone_reader.proofs.least_onset.first_of_parts.Goals as goal

pub loop-part-preserved : goal.loop-part-preserved
loop-part-preserved c =
    among_more c.args.parts.now c.loop-part.part-index c.part-item.result c.loop-part.first.seconds c.first_of_part.result.seconds
    c.earlier-first.result.seconds
    c.loop-part-test.true c.part-item.is c.loop-part.invariant c.first_of_part.ensures c.earlier-first.ensures
