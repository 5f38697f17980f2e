-- Lists that rise by a text of their items, no two of one text.
use Rattle.std.specs.Prelude.{ℕ, List, [], ◌∷◌, Option, find}
use Rattle.std.specs.Ordering.{nat_cmp, match_ordering}
use Rattle.std.specs.Cmp.Lexicographic.{slice_cmp}
use Rattle.std.specs.Str.{bytes_eq}

module _ {X : Type 0} (text : X → List ℕ) where
  -- the item at its place in the order, where it replaces one of the same text
  abbrev pub put_in : X → List X → List X
  put_in x [] = x ∷ []
  put_in x (y ∷ ys) =
      match_ordering (slice_cmp nat_cmp (text y) (text x)) (y ∷ put_in x ys) (x ∷ ys) (x ∷ y ∷ ys)

  -- the items put in one after another, so that of two with one text the later one stands
  abbrev pub put_all : List X → List X → List X
  put_all [] ys = ys
  put_all (x ∷ xs) ys = put_all xs (put_in x ys)

  -- the first item with the text
  abbrev pub at_text : List X → List ℕ → Option X
  at_text xs t = find (λ x. bytes_eq t (text x)) xs
