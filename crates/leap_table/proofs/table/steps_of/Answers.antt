use Rattle.std.proofs.Common.{arith, refl}
use Rattle.std.proofs.lemmas.Result.{err_from_is_err_and}
use Rattle.leap_table.proofs.Tables.{start_so_far, more_so_far, fault_here, end_so_far}
use Rattle.leap_table.proofs.table.steps_of.Goals as goal

pub loop-number-init : goal.loop-number-init
loop-number-init c = start_so_far c.args.lines.now c.push.new.self (rw (c.in_ok-push.ensures.ok, c.new-steps.ensures) refl)

pub returns-in_err-add_step-clause-fault : goal.returns-in_err-add_step-clause-fault
returns-in_err-add_step-clause-fault c =
    let p = err_from_is_err_and c.from_residual-in_err-add_step.result c.from_residual-in_err-add_step.ensures.1 in
    rw (p.1, p.2) (λ other. fault_here c.args.lines.now c.loop-number.steps c.loop-number.number c.in_err-add_step.field-0.0
    c.loop-number-test.true c.loop-number.invariant
    (c.in_err-add_step.ensures.no_line other) (c.in_err-add_step.ensures.cause other))

pub loop-number-preserved : goal.loop-number-preserved
loop-number-preserved c =
    more_so_far c.args.lines.now c.loop-number.steps c.add_step.new.steps c.loop-number.number c.loop-number-test.true c.loop-number.invariant
    c.in_ok-add_step.ensures.step c.in_ok-add_step.ensures.fits

pub returns-clause-fault : goal.returns-clause-fault
returns-clause-fault c = (end_so_far c.args.lines.now c.loop-number.steps c.loop-number.number (omega (arith, c.loop-number-test.false))
    c.loop-number.invariant).1
