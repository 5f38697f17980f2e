-- The steps of a table as plain numbers, and how far lines go that are steps.
use Rattle.std.specs.Prelude.{ℕ, ◌+◌, List, ℤ, pos, ◌≤ℤ◌, map}
use Rattle.catalogue.specs.declared.release.LeapStep.{LeapStep}
use Rattle.tzif_reader.specs.declared.zone_file.LeapLine.{LeapLine}

-- days, each with its offset
abbrev pub step_pairs : List LeapStep → List (ℤ × ℤ)
step_pairs steps = map (λ s. (s.day, s.offset)) steps

-- the line before line i has a correction from 0 to i, and comes i seconds or more after 1972 began
pub record HasRisen (before : LeapLine) (i : ℕ) : Type 0 where
  pub low : pos 0 ≤ℤ before.correction
  pub high : before.correction ≤ℤ pos i
  pub time : pos (63072000 + i) ≤ℤ before.at
