use Rattle.std.proofs.Common.{◌≡◌, ◌+ℤ◌, ◌-ℤ◌, ◌≤ℤ◌, ◌<ℤ◌, pos, refl, arith}
use Rattle.jiff_core.proofs.SignedLemmas.{signed_arith}
use Rattle.td_civil.specs.declared.moment_type.TheConstants.{CYCLE, LO}
use Rattle.zone_meaning.specs.State.{zone_state}
use Rattle.actions.proofs.Parts.{one_period, period_is, plain_between}
use Rattle.actions.proofs.periods.put_periods.Goals as goal

pub put_again-requires-clause-here : goal.put_again-requires-clause-here
put_again-requires-clause-here c =
    let i = c.periods.invariant in
    let end = c.periods.end.seconds in
    let cycle_is : CYCLE ≡ pos 12622780800 = refl in
    let low : LO ≤ℤ c.args.start.seconds = c.requires.meaning.0 in
    rw i.kept_is
    (plain_between c.args.zone.now (end -ℤ CYCLE) (end +ℤ pos 1) c.requires.sound
    (omega (arith, signed_arith, i.first, low), omega (arith, signed_arith, cycle_is), omega (arith, signed_arith, i.before, c.requires.end)))

pub put_again-requires-clause-later : goal.put_again-requires-clause-later
put_again-requires-clause-later c =
    let i = c.periods.invariant in
    let end = c.periods.end.seconds in
    let cycle_is : CYCLE ≡ pos 12622780800 = refl in
    let low : LO ≤ℤ c.args.start.seconds = c.requires.meaning.0 in
    let more : (end +ℤ CYCLE) <ℤ c.args.until.seconds = omega (arith, signed_arith, c.periods-test.true) in
    rw (i.kept_is, ← period_is (zone_state c.args.zone.now) c.args.start.seconds end c.requires.repeats i.first (omega (arith, signed_arith, more, c.requires.end)))
    (plain_between c.args.zone.now end ((end +ℤ CYCLE) +ℤ pos 1) c.requires.sound
    (omega (arith, signed_arith, i.first, low, cycle_is), omega (arith, signed_arith, cycle_is), omega (arith, signed_arith, more, c.requires.end)))

pub periods-preserved : goal.periods-preserved
periods-preserved c =
    let i = c.periods.invariant in
    let end = c.periods.end.seconds in
    let more : (end +ℤ CYCLE) <ℤ c.args.until.seconds = omega (arith, signed_arith, c.periods-test.true) in
    rw (c.period_after-end-in-periods.ensures, c.in_ok-put_again.ensures.period)
    (one_period (zone_state c.args.zone.now) c.args.start.seconds c.args.until.seconds end c.periods.period.items c.args.text.now c.periods.text
    c.put_again.new.text c.requires.repeats c.requires.end more i c.in_ok-put_again.ensures.put)
