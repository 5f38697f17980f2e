-- Answers that are expected, and how they are counted.
use Rattle.std.specs.Prelude.{◌≡◌, ℕ, ◌+◌, ◌-◌, ◌^◌, min, Bool, List, []}
use Rattle.std.specs.Prelude.{Option, Some, None, if◌then◌else◌}
use Rattle.case_lines.specs.declared.tally.Tally.{Tally}

-- one more, as far as the number goes
abbrev pub one_row_more : ℕ → ℕ
one_row_more n = min (n + 1) (2 ^ 64 - 1)

-- the tally after one more case
abbrev pub after_case : Tally → Bool → Tally
after_case c is_right = record {
  cases = one_row_more c.cases;
  right = if is_right then one_row_more c.right else c.right;
}

-- the tally after one more row: it is a case where an answer is expected
abbrev pub after_row : Tally → Option (List ℕ) → Bool → Tally
after_row c (Some _) is_right = after_case c is_right
after_row c None _ = c

-- an answer is the one that is expected, and empty where none is
abbrev pub IsExpected : Option (List ℕ) → List ℕ → Type 0
IsExpected (Some expected) answer = answer ≡ expected
IsExpected None answer = answer ≡ []
