use Rattle.std.proofs.Common.{arith, ℤ, pos, negsuc, neg_ℤ, ◌≤ℤ◌}
use Rattle.jiff_core.proofs.SignedLemmas.{signed_arith}
use Rattle.jiff_core.proofs.CalendarLemmas.{days_in_year_bounds}
use Rattle.recurrence.specs.Valid.{IsFirstDay}
use Rattle.recurrence.proofs.yearly.first_of_days.Goals as goal

below : (z : ℤ) → IsFirstDay z → z ≤ℤ pos 0 → (neg_ℤ (pos 365) ≤ℤ z) × (z ≤ℤ neg_ℤ (pos 7))
below (pos n) h le = absurd (omega (arith, signed_arith))
below (negsuc n) h le = (omega (arith, signed_arith), omega (arith, signed_arith))

pub returns-else-first-gt0-clause-bound : goal.returns-else-first-gt0-clause-bound
returns-else-first-gt0-clause-bound c =
    let bounds = days_in_year_bounds c.date.result.year in
    let le : c.args.first ≤ℤ pos 0 = omega (arith, signed_arith, c.if-first-gt0.false) in
    let first = below c.args.first c.requires.first le in (
      omega (arith, signed_arith, c.from-else-first-gt0.ensures, c.from-else-first-gt0-2.ensures, c.days_in_year.ensures, bounds, first),
      omega
          (arith, signed_arith, c.from-else-first-gt0.ensures, c.from-else-first-gt0-2.ensures, c.days_in_year.ensures, bounds, first),
    )
