-- The rule of the history, which only the publisher adds to and everyone may know a beginning of.
use Rattle.std.specs.Prelude.{ℕ, ◌≡◌, ◌==◌, true, List, [], ◌∷◌, ◌++◌, length, MatchBool, Option}
use Rattle.logbook.specs.Pages.{Cell, Step, View, Book, Named}
use Rattle.publication.specs.Histories.{Stand, Sealed, values}

-- the word that counts a history
abbrev pub head_of : Book → Named
head_of b = record { tracked = true; key = 0; book = b }

module _ {V E : Type 0} (last : V → E) (stands : V → List E → Type 0) where
  -- the first word is the length of the history, each value stands for what is up to it, and
  -- nothing follows the mark of the end
  pub record HistoryHolds (cells : List Cell) (log : List (Option V)) : Type 0 where
    pub words : cells ≡ (length log, true) ∷ (0, true) ∷ []
    pub stand : Stand last stands (values log)
    pub seal : Sealed log

-- what was asked for was added to all that had been seen; or the history was longer
abbrev pub Adds : {X : Type 0} → Step X → View X ℕ → ℕ → View X ℕ → Type 0
Adds s v found w = MatchBool (found == s.old) (w.0 ≡ v.0 ++ s.ask ∷ []) (length w.0 ≡ found)
