use Rattle.vtimezone_reader.proofs.LeastOnset.{start_is, start_least, least_more, least_all}
use Rattle.vtimezone_reader.proofs.least_onset.first_of_part.Goals as goal

pub loop-date-init : goal.loop-date-init
loop-date-init c = record {
  is = start_is c.args.part.now;
  least = λ v e. start_least c.args.part.now.start.seconds v e;
}

pub loop-date-preserved : goal.loop-date-preserved
loop-date-preserved c =
    least_more c.args.part.now c.loop-date.date-index _ c.loop-date.first.seconds c.earlier-first.result.seconds
    (rw c.as_slice-date-items.ensures at c.loop-date-test.true) c.loop-date.invariant (rw c.as_slice-date-items.ensures at c.earlier-first.ensures)

pub returns : goal.returns
returns c =
    least_all c.args.part.now c.loop-date.date-index c.loop-date.first.seconds (rw c.as_slice-date-items.ensures at c.loop-date-test.false)
    c.loop-date.invariant
