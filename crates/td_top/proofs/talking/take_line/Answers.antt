use Rattle.td_top.proofs.TurnLemmas.{is_passed}
use Rattle.td_top.proofs.talking.take_line.Goals as goal

pub returns-in-Ok-Some-clause-takes : goal.returns-in-Ok-Some-clause-takes
returns-in-Ok-Some-clause-takes c = rw c.in-Ok-Some.field-0-is at c.in-Ok-Some.ensures.cutting

pub returns-in-Ok-None-clause-takes : goal.returns-in-Ok-None-clause-takes
returns-in-Ok-None-clause-takes c = rw c.in-Ok-None.field-0-is at c.in-Ok-None.ensures.cutting

pub returns-in-Err-clause-takes : goal.returns-in-Err-clause-takes
returns-in-Err-clause-takes c =
    is_passed c.args.lines.now c.next.new.self c.pass_over.new.self c.in-Err.ensures.err c.in-Err.ensures.memory c.pass_over.ensures.cutting
