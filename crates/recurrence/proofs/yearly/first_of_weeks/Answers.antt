use Rattle.std.proofs.Common.{◌≡◌, ◌∙◌, refl, ap, arith, ℕ, ◌-◌, ℤ, pos, negsuc, ◌<ℤ◌, to_z-of_z}
use Rattle.jiff_core.proofs.SignedLemmas.{signed_arith, signed_casts}
use Rattle.jiff_core.proofs.CalendarLemmas.{days_in_month_bounds}
use Rattle.jiff_core.specs.Calendar.{days_in_month}
use Rattle.recurrence.specs.Row.{weeks_begin}
use Rattle.recurrence.specs.Valid.{IsOrdinal}
use Rattle.recurrence.proofs.yearly.first_of_weeks.Goals as goal

last_weeks : (nth : ℤ) (length : ℕ) → IsOrdinal nth → nth <ℤ pos 0 → weeks_begin nth length ≡ length - 7
last_weeks (pos n) length h lt = absurd (omega (arith, signed_arith))
last_weeks (negsuc n) length h lt = omega arith

pub returns-then-nth-lt0-clause-value : goal.returns-then-nth-lt0-clause-value
returns-then-nth-lt0-clause-value c =
    let year : c.date.result.year ≡ c.args.year = c.date.ensures.0 ∙ to_z-of_z c.ranges.year in
    let month : c.date.result.month ≡ c.args.month = omega (arith, signed_casts) in
    let long : days_in_month c.date.result.year c.date.result.month ≡ days_in_month c.args.year c.args.month = ap
    (λ k. days_in_month k c.date.result.month) year ∙ ap (days_in_month c.args.year) month in
    let bounds = days_in_month_bounds c.args.year c.args.month in
    let is : c.args.nth <ℤ pos 0 = omega (arith, signed_arith, c.if-nth-lt0.true) in
    let begin = last_weeks c.args.nth (days_in_month c.args.year c.args.month) c.requires.nth is in
    omega (arith, signed_arith, c.from.ensures, c.days_in_month.ensures, long, bounds, begin)

pub returns-then-nth-lt0-clause-bound : goal.returns-then-nth-lt0-clause-bound
returns-then-nth-lt0-clause-bound c =
    let bounds = days_in_month_bounds c.date.result.year c.date.result.month in (
      omega (arith, signed_arith, c.from.ensures, c.days_in_month.ensures, bounds),
      omega
          (arith, signed_arith, c.from.ensures, c.days_in_month.ensures, bounds),
    )
