-- The numbers of a valid form fit the integers that they are handed on in.
use Rattle.std.proofs.Common.{ℕ, ◌+◌, ◌≤◌, ℤ, pos, negsuc, FitsSigned, w8, w16, arith}
use Rattle.jiff_core.specs.Calendar.{days_in_month}
use Rattle.jiff_core.proofs.SignedLemmas.{signed_arith}
use Rattle.recurrence.specs.Valid.{IsMonth, IsOrdinal, IsFirstDay}
use Rattle.jiff_core.proofs.CalendarLemmas.{days_in_month_bounds}

pub month_fits : (month : ℕ) → IsMonth month → FitsSigned w16 (pos month)
month_fits month h = omega (arith, signed_arith, h.1)

pub day_fits : (day n month : ℕ) → day + n ≤ days_in_month (pos 2001) month → FitsSigned w16 (pos day)
day_fits day n month h = omega (arith, signed_arith, h, days_in_month_bounds (pos 2001) month)

pub nth_fits : (nth : ℤ) → IsOrdinal nth → FitsSigned w8 nth
nth_fits (pos n) h = omega (arith, signed_arith, h.1)
nth_fits (negsuc n) h = omega (arith, signed_arith, h)

pub first_fits : (first : ℤ) → IsFirstDay first → FitsSigned w16 first
first_fits (pos n) h = omega (arith, signed_arith, h.1)
first_fits (negsuc n) h = omega (arith, signed_arith, h.1)
