use Rattle.std.proofs.Common.{arith}
use Rattle.jiff_core.proofs.SignedLemmas.{signed_casts, one_part}
use Rattle.recurrence.proofs.Steady.{steady_within}
use Rattle.recurrence.proofs.date_rules.place_of.Goals as goal

pub overflow_cast-result : goal.overflow_cast-result
overflow_cast-result c =
    let within = steady_within c.args.date c.requires.steady in (
      omega (arith, signed_casts, c.moved_first.ensures.value, c.moved_first.ensures.bound, within),
      omega
          (arith, signed_casts, c.moved_first.ensures.value, c.moved_first.ensures.bound, within),
    )

pub returns-clause-bound : goal.returns-clause-bound
returns-clause-bound c =
    let within = steady_within c.args.date c.requires.steady in
    omega (arith, signed_casts, c.moved_first.ensures.value, c.moved_first.ensures.bound, within, one_part c.moved_first.result)
