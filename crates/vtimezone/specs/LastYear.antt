-- The year of the end of a range.
use Rattle.std.specs.Prelude.{ℤ, pos, ◌*ℤ◌, ◌≤ℤ◌, ◌<ℤ◌}
use Rattle.jiff_core.specs.Calendar.{days_from_civil, IsYear}

-- a year that begins by b, of which each later one begins after it
pub record IsLastYear (b here : ℤ) : Type 0 where
  pub low : pos 1800 ≤ℤ here
  pub most : here ≤ℤ pos 9998
  pub begun : (days_from_civil here 1 1 *ℤ pos 86400) ≤ℤ b
  pub later : (y : ℤ) → IsYear y → here <ℤ y → y ≤ℤ pos 9998
      → b ≤ℤ (days_from_civil y 1 1 *ℤ pos 86400)
