-- The moments of which a meaning is claimed, and those that have a text.
use Rattle.std.specs.Prelude.{Bool, ◌&&◌, int_le, int_lt, ℤ, pos, neg_ℤ, ◌≤ℤ◌, ◌<ℤ◌}
use Rattle.td_civil.specs.declared.moment_type.TheConstants.{LO, HI}

-- from 1800-01-01T00:00:00Z to before 9999-01-01T00:00:00Z
abbrev pub HasMeaning : ℤ → Type 0
HasMeaning m = (LO ≤ℤ m) × (m <ℤ HI)

-- the same, with the end itself
abbrev pub IsWithinBounds : ℤ → Type 0
IsWithinBounds m = (LO ≤ℤ m) × (m ≤ℤ HI)

-- from 0000-01-01T00:00:00Z to before the year 10000
abbrev pub HasText : ℤ → Type 0
HasText m = (neg_ℤ (pos 62_167_219_200) ≤ℤ m) × (m <ℤ pos 253_402_300_800)

-- the same as `HasMeaning`, as a test
abbrev pub has_meaning : ℤ → Bool
has_meaning m = int_le LO m && int_lt m HI
