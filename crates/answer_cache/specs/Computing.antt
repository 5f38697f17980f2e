-- What a count of calls tells.
use Rattle.std.specs.Prelude.{ℕ, ◌≤◌, ◌+◌, ◌-◌, ◌^◌, min}

-- a count rose by one, or stands at 18446744073709551615, its last value; it never falls
pub record RoseByOne (before now : ℕ) : Type 0 where
  pub later : before ≤ now
  pub least : min (before + 1) (2 ^ 64 - 1) ≤ now
  pub most : now ≤ before + 1
