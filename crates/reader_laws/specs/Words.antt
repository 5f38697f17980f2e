-- What each word of a rule is.
use Rattle.std.specs.Prelude.{◌≡◌, ℕ, List, codes, Some, true}
use Rattle.std.specs.List.{Contains}
use Rattle.vtimezone.specs.Cutting.{cut_at}
use Rattle.vtimezone_reader.specs.ContentLines.{is_word}
use Rattle.vtimezone_reader.specs.Pieces.{after, before}

-- the words between semicolons: none gives an interval but 1
pub record HasWords (text : List ℕ) : Type 0 where
  pub interval : (word : List ℕ) → Contains (cut_at 59 text) word
      → is_word (before 61 word) (codes "INTERVAL") ≡ true → after 61 word ≡ Some (codes "1")
