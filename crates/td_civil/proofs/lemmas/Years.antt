-- How the years lie to one another, and in which of them a moment lies.
use Rattle.std.proofs.Common.{◌≡◌, ℕ, zero, suc, subst, arith, ℤ, pos, ◌+ℤ◌, ◌*ℤ◌, ◌≤ℤ◌, ◌<ℤ◌}
use Rattle.std.proofs.lemmas.Int.{by_lt_z}
use Rattle.jiff_core.specs.Calendar.{days_from_civil, IsYear}
use Rattle.jiff_core.proofs.SignedLemmas.{signed_arith}
use Rattle.jiff_core.proofs.CalendarLemmas.{days_from_civil-day_count, day_count-later_year, days_in_year_bounds}
use Rattle.td_civil.specs.Calendar.{IsInYear}

-- a later year begins at least 365 days later
pub year_is_long : (y later : ℤ) → IsYear y → y <ℤ later → (days_from_civil y 1 1 +ℤ pos 365) ≤ℤ days_from_civil later 1 1
year_is_long y later year lt =
    omega (arith, signed_arith, days_from_civil-day_count, day_count-later_year y later (omega (arith, signed_arith)) lt, days_in_year_bounds y)

-- the moments of an earlier year come first
pub years_apart_lem : (y later m n : ℤ) → IsYear y → IsYear later → IsInYear y m → IsInYear later n → y <ℤ later → m <ℤ n
years_apart_lem y later m n year there a b lt =
    by_lt_z (y +ℤ pos 1) later
    (λ far. let long = year_is_long (y +ℤ pos 1) later (omega (arith, signed_arith)) far in omega (arith, signed_arith))
    (λ near. let next : later ≡ y +ℤ pos 1 = omega (arith, signed_arith) in
    let begin : (days_from_civil later 1 1 *ℤ pos 86400) ≤ℤ n = b.0 in
    let Begins : ℤ → Type 0 = λ k. (days_from_civil k 1 1 *ℤ pos 86400) ≤ℤ n in
    let here = subst Begins next begin in
    omega (arith, signed_arith))

-- a moment of n years from one on lies in some of them
pub some_year_lem : (n : ℕ) (first t : ℤ) → (days_from_civil first 1 1 *ℤ pos 86400) ≤ℤ t → t <ℤ (days_from_civil (first +ℤ pos n) 1 1 *ℤ pos 86400)
    → (y : ℤ) × ((first ≤ℤ y) × (y <ℤ (first +ℤ pos n)) × IsInYear y t)
some_year_lem zero first t low high =
    let same : first +ℤ pos 0 ≡ first = omega (arith, signed_arith) in
    let P : ℤ → Type 0 = λ k. t <ℤ (days_from_civil k 1 1 *ℤ pos 86400) in
    let here = subst P same high in
    absurd (omega (arith, signed_arith))
some_year_lem (suc n) first t low high =
    by_lt_z t (days_from_civil (first +ℤ pos n) 1 1 *ℤ pos 86400)
    (λ lt. let found = some_year_lem n first t low lt in
    let end = found.1.1 in
    (found.0, (found.1.0, omega (arith, signed_arith, end), found.1.2)))
    (λ le. let next : first +ℤ pos (suc n) ≡ first +ℤ pos n +ℤ pos 1 = omega (arith, signed_arith) in
    let P : ℤ → Type 0 = λ k. t <ℤ (days_from_civil k 1 1 *ℤ pos 86400) in
    (first +ℤ pos n, (omega (arith, signed_arith), omega (arith, signed_arith), (le, subst P next high))))
