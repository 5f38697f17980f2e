-- A list of what a function gives at each number below another.
use Rattle.std.proofs.Common.{◌≡◌, ℕ, ◌+◌, List, [], ◌∷◌, ◌++◌, sym, arith}
use Rattle.std.proofs.lemmas.List.FromFn.{map-range_with_len_more}
use Rattle.tzif_reader.specs.Cut.{items}

pub items_more : {A : Type 0} (f : ℕ → A) (n : ℕ) (before : List A) (x : A) → before ≡ items n f → x ≡ f n
    → before ++ x ∷ [] ≡ items (n + 1) f
items_more f n before x h k = rw (h, k) (sym (map-range_with_len_more f 0 n n (omega arith)))
