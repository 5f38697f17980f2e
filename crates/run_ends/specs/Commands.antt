-- What the words of a command line ask for, as plain data, and what is printed for words that are
-- no command.
use Rattle.std.specs.Prelude.{ℕ, ℤ, List, codes, ◌≤ℤ◌, ◌<ℤ◌}
use Rattle.admission.specs.declared.rules.Chosen.{Chosen}
use Rattle.td_civil.specs.declared.moment_type.TheConstants.{LO, HI}

-- what words ask for
pub data PlainCommand : Type 0 where
  answer : List (List ℕ) → PlainCommand
  check : List (List ℕ) → PlainCommand
  at : List ℕ → ℤ → PlainCommand
  serve : List ℕ → ℕ → List Chosen → List (List ℕ) → PlainCommand
  mirror : List ℕ → ℕ → List ℕ → PlainCommand
  load : ℕ → PlainCommand
  calmirror : List ℕ → ℤ → ℤ → PlainCommand

-- what is printed for words that are no command
unfoldable pub usage_line : List ℕ
usage_line = codes "usage: tzdistd answer|serve|mirror|check|at|load|calmirror\n"

-- a range that has a meaning
abbrev pub IsRangeAsked : ℤ → ℤ → Type 0
IsRangeAsked start end = (LO ≤ℤ start) × (start <ℤ end) × (end ≤ℤ HI)
