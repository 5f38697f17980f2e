use Rattle.vtimezone_reader.proofs.LateOnsets.{late_start, late_listed, late_ruled, one_of}
use Rattle.vtimezone_reader.specs.Turns.{IsOnsetBy}
use Rattle.vtimezone_reader.proofs.begun.late_of_part.Goals as goal

pub returns : goal.returns
returns c =
    let p = c.args.part.now in
    let t = c.args.t.seconds in
    let sound = c.requires.sound in
    one_of (λ m. IsOnsetBy p t m.seconds) c.later_of.result c.late_if_ruled.result c.later_of-2.result c.later_of-2.ensures
    (one_of (λ m. IsOnsetBy p t m.seconds) c.if_by-start.result c.late_date-date.result c.later_of.result c.later_of.ensures
    (late_start p t sound c.if_by-start.result c.if_by-start.ensures)
    (late_listed p t sound c.late_date-date.result (rw c.as_slice.ensures at c.late_date-date.ensures)))
    (late_ruled p t sound c.late_if_ruled.result c.late_if_ruled.ensures)
