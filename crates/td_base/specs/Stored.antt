-- The files that a store in memory keeps.
use Rattle.std.specs.Prelude.{ℕ, List, [], ◌∷◌}
use Rattle.std.specs.declared.vec.Vec.{Vec}
use Rattle.td_base.specs.Views.{File}

-- each path with its bytes, in the same order
abbrev pub files_of : {Z : Type 0} → List (Vec ℕ Z × List ℕ) → List File
files_of [] = []
files_of (f ∷ fs) = record { path = f.0.items; bytes = f.1 } ∷ files_of fs
