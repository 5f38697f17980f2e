-- What an index keeps of a list of numbers.
use Rattle.std.specs.Prelude.{ℕ, ◌+◌, List, [], ◌∷◌, map}
use Rattle.change_index.specs.Orders.{rising_by_number}
use Rattle.change_index.specs.declared.placed.Placed.{Placed}

-- each number with its position, where the first has this position
abbrev pub placed_from : ℕ → List ℕ → List Placed
placed_from k [] = []
placed_from k (n ∷ ns) = record { change = n; at = k } ∷ placed_from (k + 1) ns

-- what an index of the numbers keeps: each with its position, in rising order of the numbers, and
-- equal ones in rising order of their positions
unfoldable pub kept_of : List ℕ → List Placed
kept_of numbers = rising_by_number (λ p. p.change) (placed_from 0 numbers)

-- the numbers of which this is kept, in the order of their positions
unfoldable pub numbers_of : List Placed → List ℕ
numbers_of kept = map (λ p. p.change) (rising_by_number (λ p. p.at) kept)
